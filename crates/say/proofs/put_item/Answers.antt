-- The label, then the name. Assumes nothing.
use Rattle.put.proofs.RunLaws.{run_last, run_both}
use Rattle.say.specs.Words.{item}
use Rattle.say.proofs.put_item.Goals as goal

pub returns : goal.returns
unfolding item
returns c =
    run_both _ _ _ _ _ _ _ _ c.put_label-p.ensures
    (run_last _ _ _ _ _ _ (c.put_name.ensures.answer, c.put_name.ensures.bytes) c.after.ensures)
