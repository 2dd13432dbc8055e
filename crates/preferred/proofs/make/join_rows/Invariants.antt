use mathlib.Core.Path.{◌≡◌}
use lib.ListN.{drop}
use Rattle.preferred.specs.Own.{rows}
use Rattle.filters.specs.Made.{joined}
use Rattle.preferred.proofs.make.join_rows.Given as goal

abbrev pub invariant-loop-n : goal.invariant-loop-n
invariant-loop-n l = joined l.fn.list (rows l.kind l.numbers) ≡ joined l.list (rows l.kind (drop l.n-index l.numbers))
