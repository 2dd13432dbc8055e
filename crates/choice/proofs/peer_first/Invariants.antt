use mathlib.Core.Path.{◌≡◌}
use Prim.Native.Nat.{◌-◌}
use lib.ListN.{length, drop}
use Rattle.commas.specs.Cut.{cut}
use Rattle.choice.specs.Rows.{spells_by, peer_first}
use Rattle.choice.proofs.peer_first.Given as goal

abbrev pub invariant-loop-p : goal.invariant-loop-p
invariant-loop-p l = peer_first (spells_by l.names) l.own (cut l.list) ≡ peer_first (spells_by l.names) l.own (cut (drop l.c.at l.list))

abbrev pub decreases-loop-p : goal.decreases-loop-p
decreases-loop-p l = length l.list - l.c.at
