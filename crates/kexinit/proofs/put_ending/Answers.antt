-- Four puts in a row. Assumes nothing.
use Rattle.kexinit.specs.Pieces.{ending}
use Rattle.put.proofs.RunLaws.{run_last, run_more}
use Rattle.kexinit.proofs.put_ending.Goals as goal

pub returns : goal.returns
unfolding ending
returns c =
    run_more _ _ _ _ _ _ (c.put_u32.ensures.answer, c.put_u32.ensures.bytes) c.after-p.ensures _ _ _
    (run_more _ _ _ _ _ _ (c.put_u32-2.ensures.answer, c.put_u32-2.ensures.bytes) c.after-q.ensures _ _ _
    (run_more _ _ _ _ _ _ (c.put_u8.ensures.answer, c.put_u8.ensures.bytes) c.after-s.ensures _ _ _
    (run_last _ _ _ _ _ _ (c.put_u32-3.ensures.answer, c.put_u32-3.ensures.bytes) c.after.ensures)))
