use mathlib.Core.Path.{◌≡◌}
use lib.ListN.{drop}
use Rattle.filters.specs.Made.{joined_once}
use Rattle.filters.specs.Picked.{of_kind}
use Rattle.filters.proofs.join_kind.Given as goal

abbrev pub invariant-loop-n : goal.invariant-loop-n
invariant-loop-n l = joined_once l.fn.names (of_kind l.kind l.key) ≡ joined_once l.names (of_kind l.kind (drop l.n-index l.key))
