-- Two runs of stores are one. Assumes nothing.
use Rattle.lists.proofs.StoreLaws.{part_laws, part_whole}
use Rattle.lists.proofs.store_part.Goals as goal

pub store-p-requires : goal.store-p-requires
store-p-requires c = search part_laws

pub store-requires : goal.store-requires
store-requires c = search part_laws

pub returns : goal.returns
returns c =
    let both = part_whole _ _ _ _ c.requires c.spelt.ensures _ _ c.store-p.ensures.next c.store-p.ensures.bytes _ _
    (c.store.ensures.next, c.store.ensures.bytes) in
    record { next = both.0; bytes = both.1 }
