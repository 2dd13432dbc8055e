-- The rows that are left still give the answer. Assumes nothing.
use mathlib.Core.Path.{◌≡◌}
use lib.ListN.{drop}
use Rattle.names.specs.Spelled.{spelled_by}
use Rattle.lists.specs.Texts.{named}
use Rattle.lists.proofs.known.Given as goal

abbrev pub invariant-loop-row : goal.invariant-loop-row
invariant-loop-row l = named (spelled_by l.names) l.rows ≡ named (spelled_by l.names) (drop l.row-index l.rows)
