-- The label, then the word. Assumes nothing.
use Rattle.put.proofs.RunLaws.{run_last, run_both}
use Rattle.say.specs.Words.{item}
use Rattle.say.proofs.put_flag.Goals as goal

pub returns : goal.returns
unfolding item
returns c =
    let said = c.yes_or_no.ensures in
    run_both _ _ _ _ _ _ _ _ c.put_label-p.ensures
    (run_last _ _ _ _ _ _ (rw said at c.put_bytes.ensures.answer, rw said at c.put_bytes.ensures.bytes) c.after.ensures)
