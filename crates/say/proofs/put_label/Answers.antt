-- Two puts in a row. Assumes nothing.
use Rattle.put.proofs.RunLaws.{run_last, run_more}
use Rattle.say.proofs.put_label.Goals as goal

pub returns : goal.returns
returns c =
    run_more _ _ _ _ _ _ (c.put_bytes.ensures.answer, c.put_bytes.ensures.bytes) c.after-p.ensures _ _ _
    (run_last _ _ _ _ _ _ (c.put_bytes-2.ensures.answer, c.put_bytes-2.ensures.bytes) c.after.ensures)
