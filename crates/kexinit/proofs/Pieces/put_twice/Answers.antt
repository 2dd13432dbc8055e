-- Two runs of puts are one. Assumes nothing.
use Rattle.kexinit.specs.Pieces.{twice}
use Rattle.put.proofs.RunLaws.{run_both}
use Rattle.kexinit.proofs.Pieces.put_twice.Goals as goal

pub returns : goal.returns
unfolding twice
returns c = run_both _ _ _ _ _ _ _ _ c.put_list-p.ensures c.put_list.ensures
