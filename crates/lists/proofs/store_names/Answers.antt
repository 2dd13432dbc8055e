use Rattle.lists.proofs.StoreLaws.{no_names, names_begin, names_room, names_on, last_room, last_whole}
use Rattle.lists.proofs.store_names.Goals as goal

pub returns-in_default : goal.returns-in_default
returns-in_default c =
    let both = no_names _ _ c.args.out.now c.args.at c.in_default.ensures.cases in
    record { next = both.0; bytes = both.1 }

pub loop-row-init : goal.loop-row-init
loop-row-init c = names_begin _ _ _ _ _ _ c.in-Some.ensures.cases.0 c.requires

pub store_part-p-requires : goal.store_part-p-requires
store_part-p-requires c = names_room _ _ _ _ _ _ _ _ _ c.loop-row.invariant c.loop-row-test.true

pub loop-row-preserved : goal.loop-row-preserved
loop-row-preserved c = names_on _ _ _ _ _ _ _ _ _ c.loop-row.invariant c.loop-row-test.true _ _ c.store_part-p.ensures.next c.store_part-p.ensures.bytes

pub store-requires : goal.store-requires
store-requires c = last_room _ _ _ _ _ _ _ _ _ c.loop-row.invariant c.loop-row-test.false _ c.spelt.ensures

pub returns : goal.returns
returns c =
    let both = last_whole _ _ _ _ _ _ _ _ _ c.loop-row.invariant c.loop-row-test.false _ c.spelt.ensures _ _ c.store.ensures.next c.store.ensures.bytes in
    record { next = both.0; bytes = both.1 }
