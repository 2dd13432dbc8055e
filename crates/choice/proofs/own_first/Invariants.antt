use mathlib.Core.Path.{◌≡◌}
use Prim.Native.Nat.{◌-◌, ◌≤◌}
use lib.ListN.{length, drop, take}
use Rattle.commas.specs.Cut.{cut}
use Rattle.choice.specs.Rows.{spells_by, offered, place_of}
use Rattle.choice.proofs.own_first.Given as goal

abbrev pub invariant-loop-p : goal.invariant-loop-p
invariant-loop-p l = (place_of (offered (spells_by l.names)) l.own (cut l.list) ≡ place_of (offered (spells_by l.names)) (take l.best l.own) (cut (drop l.c.at l.list))) × (l.best ≤ length l.own)

abbrev pub decreases-loop-p : goal.decreases-loop-p
decreases-loop-p l = length l.list - l.c.at
