-- Laws of the entry point: what it refuses before it reads, and the own lists that it hands to the stages. Assumes nothing.
use mathlib.Core.Path.{◌≡◌, ap, ◌∙◌}
use mathlib.Core.Bool.{Bool, true}
use mathlib.Core.List.{List}
use Prim.Native.Nat.{ℕ, ◌≤◌, ◌<◌}
use borrow.Author.Tests.{le-leb, lt-leb}
use lib.Dec.{eqb}
use lib.ListN.{length}
use Rattle.std.specs.Prelude.{Result}
use Rattle.std.specs.List.{list_any}
use Rattle.std.specs.Result.{IsErr, IsErrAnd, result_from_control_flow}
use Rattle.std.proofs.Common.{Continue, Break}
use Rattle.std.proofs.lemmas.Result.{err_from_is_err_and}
use Rattle.answer.specs.declared.Cause.{Cause}
use Rattle.answer.specs.declared.Cause.TheVariants.{TooLong, Inconsistent}
use Rattle.answer.specs.declared.Refusal.{Refusal as Answered}
use Rattle.answer.specs.Refusal.{number, told, IsAtFront}
use Rattle.answer.specs.Answer.{Out, refused, done, refuse, ◌>>=◌}
use Rattle.answer.proofs.Laws.{No}
use Rattle.wire.specs.Fields.{At, here}
use Rattle.names.specs.declared.rows.Columns.{Columns}
use Rattle.names.specs.Constant.{AreConstant}
use Rattle.names.proofs.ConstantLaws.{constant_row}
use Rattle.choice.specs.declared.Side.{Side}
use Rattle.choice.specs.Rows.{spells_by, spells_name}
use Rattle.choice.proofs.ChoiceLaws.{table_spells_lem}
use Rattle.names.specs.Lookup.{is}
use Rattle.judging.specs.Tables.{Tables, valid}
use Rattle.filters.specs.Made.{shown}
use Rattle.filters.proofs.MadeLaws.{list_any-member}
use Rattle.preferred.specs.declared.Own.{Own}
use Rattle.preferred.specs.Own.{strict_name, other, own_of, lists_of}
use Rattle.preferred.proofs.HandedLaws.{lists_valid, lists_own, refusal_invalid, refusal_number}
use Rattle.stages.specs.declared.Rows.{Rows}
use Rattle.stages.specs.Stages.{got_rows, read_rows}
use Rattle.negotiation.specs.declared.Names.{Names}
use Rattle.negotiation.specs.Read.{most_kex_init, read_kex, got_names}
use Rattle.negotiation.specs.Rows.{recorded, in_names}
use Rattle.negotiation.proofs.ReadLaws.{staged}

-- the constant columns spell what the name table says
pub constant_rows : (names : Columns) → AreConstant names → (side : Side) (kex key cipher mac compression : List ℕ) (asked : Bool) (r : ℕ)
    (strict_agreed : Bool) (c : At)
    → read_rows (spells_by names) side kex key cipher mac compression asked r strict_agreed c
    ≡ read_rows spells_name side kex key cipher mac compression asked r strict_agreed c
constant_rows names k side kex key cipher mac compression asked r strict_agreed c =
    ap (λ (f : ℕ → List ℕ → Bool). read_rows f side kex key cipher mac compression asked r strict_agreed c)
    (λ i row name. (ap (λ (w : Out (List ℕ)). is w name) (constant_row names k row) ∙ table_spells_lem row name) i)

module _ (t : Tables) (strict_agreed : Bool) (p : List ℕ) where
  -- tables that are refused
  pub read_invalid : (c : Cause) (r : Result Names Answered) → refuse (number c) ≡ own_of t → IsErr r × IsErrAnd r (IsAtFront c)
      → got_names r ≡ read_kex t strict_agreed p
  unfolding read_kex ◌>>=◌
  read_invalid c r e h =
      let q = err_from_is_err_and r h.1 in
      rw (q.1, q.2, refusal_invalid t (number c) e, refusal_number t (number c) e)

  module _ (own : Own) (made : done own ≡ own_of t) where
    is_valid : valid t ≡ true
    is_valid = lists_valid t own made

    is_lists : own ≡ lists_of t
    is_lists = lists_own t own made

    pub read_long : (x : Answered) → most_kex_init < length p → No TooLong x → refused (told x) ≡ read_kex t strict_agreed p
    unfolding read_kex ◌>>=◌
    read_long x l e = rw (is_valid, lt-leb (length p) most_kex_init l, e)

    pub read_short : (x : Answered) → length p ≤ most_kex_init → length p < 17 → No Inconsistent x → refused (told x) ≡ read_kex t strict_agreed p
    unfolding read_kex ◌>>=◌
    read_short x l k e = rw (is_valid, le-leb (length p) most_kex_init l, lt-leb 17 (length p) k, e)

    -- what the stages read with the own lists
    module _ (l : length p ≤ most_kex_init) (k : 17 ≤ length p) (names : Columns) (constant : AreConstant names)
        (n m : ℕ) (own_name : n ≡ strict_name t.side) (a : Bool) (asked : a ≡ list_any (λ y. eqb y n) t.kex)
        (o : Side) (peer : o ≡ other t.side) (peer_name : m ≡ strict_name o)
        (kex key cipher mac compression : List ℕ) (is_kex : kex ≡ shown own.kex_chosen) (is_key : key ≡ shown own.key)
        (is_cipher : cipher ≡ shown own.cipher) (is_mac : mac ≡ shown own.mac) (is_compression : compression ≡ shown own.compression)
        (w : Result (Rows × Bool) Answered)
        (read : got_rows w ≡ read_rows (spells_by names) t.side kex key cipher mac compression a m strict_agreed (here p 17)) where
      same : in_names (got_rows w) ≡ read_kex t strict_agreed p
      unfolding lists_of
      same =
          rw (
            read,
            constant_rows names constant,
            asked,
            list_any-member n t.kex,
            own_name,
            peer_name,
            peer,
            is_kex,
            is_key,
            is_cipher,
            is_mac,
            is_compression,
            is_lists,
          )
          (staged t is_valid strict_agreed p l k)

      module _ (b : _) (was : w ≡ result_from_control_flow b) where
        pub rows_out : (e : _) (r : Result Names Answered) → b ≡ Break e → IsErr r × IsErrAnd r (λ y. y ≡ e.0)
            → got_names r ≡ read_kex t strict_agreed p
        unfolding in_names ◌>>=◌
        rows_out e r f h =
            let q = err_from_is_err_and r h.1 in
            rw (q.1, q.2) (rw (was, f) at same)

        pub rows_on : (x : Rows × Bool) (v : Names) → b ≡ Continue x → v ≡ recorded x.0 x.1 → done v ≡ read_kex t strict_agreed p
        unfolding in_names ◌>>=◌
        rows_on x v f g = rw g (rw (was, f) at same)

pub ruleset entry_laws = (read_long, read_short)
