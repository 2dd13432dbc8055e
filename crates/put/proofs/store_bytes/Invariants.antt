-- The loop: what is copied so far stands in place. The measure is what is left to copy. Assumes nothing.
use mathlib.Core.Path.{◌≡◌}
use Prim.Native.Nat.{◌≤◌, ◌-◌}
use lib.ListN.{length, take}
use lib.Seq.{sets}
use Rattle.put.proofs.store_bytes.Given as goal

abbrev pub invariant-loop-j : goal.invariant-loop-j
invariant-loop-j l = (l.j ≤ length l.x) × (l.out ≡ sets l.initial.out l.at (take l.j l.x))

abbrev pub decreases-loop-j : goal.decreases-loop-j
decreases-loop-j l = length l.x - l.j
