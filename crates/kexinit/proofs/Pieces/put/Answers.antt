-- The runs of puts are one run. Assumes nothing.
use Rattle.kexinit.specs.Pieces.{pieces}
use Rattle.put.proofs.RunLaws.{run_both}
use Rattle.kexinit.proofs.Pieces.put.Goals as goal

pub returns : goal.returns
unfolding pieces
returns c =
    run_both _ _ _ _ _ _ _ _ c.put_head-p.ensures
    (run_both _ _ _ _ _ _ _ _ c.put_twice-q.ensures
    (run_both _ _ _ _ _ _ _ _ c.put_twice-s.ensures (run_both _ _ _ _ _ _ _ _ c.put_twice-e.ensures c.put_ending.ensures)))
