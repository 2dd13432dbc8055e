-- `lists::store_list`: the length in front, then the names. Assumes nothing.
use Rattle.lists.proofs.StoreLaws.{tail_room, list_whole}
use Rattle.lists.proofs.store_list.Goals as goal

pub store_names-requires : goal.store_names-requires
store_names-requires c = tail_room _ _ _ _ c.requires _ _ _ (c.put_u32.ensures.answer, c.put_u32.ensures.bytes) c.after-p.ensures

pub returns : goal.returns
returns c =
    let both = list_whole _ _ _ _ c.requires _ _ _ (c.put_u32.ensures.answer, c.put_u32.ensures.bytes) c.after-p.ensures _ _
    (c.store_names.ensures.next, c.store_names.ensures.bytes) in
    record { next = both.0; bytes = both.1 }
