-- Four puts in a row. Assumes nothing.
use Rattle.kexinit.specs.Pieces.{head}
use Rattle.put.proofs.RunLaws.{run_more, run_both}
use Rattle.kexinit.proofs.Pieces.put_head.Goals as goal

pub returns : goal.returns
unfolding head
returns c =
    run_more _ _ _ _ _ _ (c.put_u8.ensures.answer, c.put_u8.ensures.bytes) c.after-p.ensures _ _ _
    (run_more _ _ _ _ _ _ (c.put_bytes.ensures.answer, c.put_bytes.ensures.bytes) c.after-q.ensures _ _ _
    (run_both _ _ _ _ _ _ _ _ c.put_list-s.ensures c.put_list.ensures))
