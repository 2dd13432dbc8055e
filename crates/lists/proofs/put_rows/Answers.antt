-- Each refusal is the definition's first, and what passed them all has room. Assumes nothing.
use native.Mathlib.Omega.{arith}
use Rattle.put.proofs.WriterLaws.{refused_put}
use Rattle.lists.proofs.ListLaws.{list_unnamed, list_long, is_length, list_full, list_put}
use Rattle.lists.proofs.put_rows.Goals as goal

pub returns-then-not-known : goal.returns-then-not-known
returns-then-not-known c =
    let both = refused_put _ _ _ 9 (list_unnamed c.args.names.now _ _ c.known.ensures c.if-not-known.true) in
    record { answer = both.0; bytes = both.1 }

pub returns-then-total-ge-MOST : goal.returns-then-total-ge-MOST
returns-then-total-ge-MOST c =
    let both = refused_put _ _ _ 1 (list_long c.args.names.now _ _ c.known.ensures c.if-not-known.false _ c.size-total.ensures c.if-total-ge-MOST.true) in
    record { answer = both.0; bytes = both.1 }

pub returns-then-saturating_sub-len : goal.returns-then-saturating_sub-len
returns-then-saturating_sub-len c =
    let both = list_full c.args.names.now _ _ c.known.ensures c.if-not-known.false _ c.size-total.ensures c.if-total-ge-MOST.false _ c.saturating_sub-len.ensures _ _
    (omega arith) in
    record { answer = both.0; bytes = both.1 }

pub store_list-requires : goal.store_list-requires
store_list-requires c = omega (
  arith,
  is_length c.args.names.now _ _ c.known.ensures c.if-not-known.false _ c.size-total.ensures c.if-total-ge-MOST.false _ c.saturating_sub-len.ensures,
)

pub returns : goal.returns
returns c =
    let both = list_put c.args.names.now _ _ c.known.ensures c.if-not-known.false _ c.size-total.ensures c.if-total-ge-MOST.false _ c.saturating_sub-len.ensures _ _ _ _
    (omega arith) (c.store_list.ensures.next, c.store_list.ensures.bytes) in
    record { answer = both.0; bytes = both.1 }
