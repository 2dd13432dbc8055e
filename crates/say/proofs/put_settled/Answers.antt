-- The items in a row are one run. Assumes nothing.
use Rattle.put.proofs.RunLaws.{run_both}
use Rattle.say.specs.Words.{algorithms, directions, flag_items, words}
use Rattle.say.proofs.put_settled.Goals as goal

pub returns : goal.returns
unfolding words algorithms directions flag_items
returns c =
    let kind = c.key_kind-key.ensures in
    let ran =
    run_both _ _ _ _ _ _ _ _
    (run_both _ _ _ _ _ _ _ _ c.put_item-at.ensures
    (run_both _ _ _ _ _ _ _ _ (rw kind at c.put_item-at-2.ensures) c.put_item-at-3.ensures))
    (run_both _ _ _ _ _ _ _ _
    (run_both _ _ _ _ _ _ _ _ c.put_item-at-4.ensures
    (run_both _ _ _ _ _ _ _ _ c.put_item-at-5.ensures
    (run_both _ _ _ _ _ _ _ _ c.put_item-at-6.ensures c.put_item-at-7.ensures)))
    (run_both _ _ _ _ _ _ _ _ c.put_flag-at.ensures (run_both _ _ _ _ _ _ _ _ c.put_flag-at-2.ensures c.put_flag.ensures))) in
    record { next = ran.0; bytes = ran.1 }
