use mathlib.Core.Path.{◌≡◌}
use Prim.Native.Nat.{◌-◌, ◌≤◌}
use lib.ListN.{length, drop}
use Rattle.commas.specs.Cut.{cut}
use Rattle.namelist.specs.Judged.{judged}
use Rattle.namelist.proofs.judge_names.Given as goal

abbrev pub invariant-loop-p : goal.invariant-loop-p
invariant-loop-p l = (judged 0 (cut l.list) ≡ judged l.n (cut (drop l.c.at l.list))) × (l.n ≤ 1025)

abbrev pub decreases-loop-p : goal.decreases-loop-p
decreases-loop-p l = length l.list - l.c.at
