-- Where the name ends counted from here is where it ends counted from the start. Assumes nothing.
use mathlib.Core.Path.{◌≡◌}
use Prim.Native.Nat.{◌+◌, ◌-◌}
use lib.ListN.{length, drop}
use Rattle.commas.specs.Cut.{name_length}
use Rattle.commas.proofs.name_end.Given as goal

abbrev pub invariant-loop-i : goal.invariant-loop-i
invariant-loop-i l = l.at + name_length (drop l.at l.list) ≡ l.i + name_length (drop l.i l.list)

abbrev pub decreases-loop-i : goal.decreases-loop-i
decreases-loop-i l = length l.list - l.i

abbrev pub invariant-loop-i-2 : goal.invariant-loop-i-2
invariant-loop-i-2 l = l.at + name_length (drop l.at l.list) ≡ l.i + name_length (drop l.i l.list)

abbrev pub decreases-loop-i-2 : goal.decreases-loop-i-2
decreases-loop-i-2 l = length l.list - l.i
