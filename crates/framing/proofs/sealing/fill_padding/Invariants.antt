-- The loop: the zeros written so far stand in place. Assumes nothing.
use Rattle.std.proofs.Common.{◌≡◌, replicate}
use lib.Seq.{sets}
use Rattle.framing.proofs.sealing.fill_padding.Given as goal

abbrev pub invariant-loop-j : goal.invariant-loop-j
invariant-loop-j l = l.out ≡ sets l.initial.out l.at (replicate l.j 0)
