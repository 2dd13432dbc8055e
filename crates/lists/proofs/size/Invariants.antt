-- The rows that are left still give the answer. Assumes nothing.
use mathlib.Core.Path.{◌≡◌}
use lib.ListN.{drop}
use Rattle.names.specs.Spelled.{spelled_by}
use Rattle.lists.specs.Texts.{texts, size_from}
use Rattle.lists.proofs.size.Given as goal

abbrev pub invariant-loop-row : goal.invariant-loop-row
invariant-loop-row l = size_from 0 (texts (spelled_by l.names) l.rows) ≡ size_from l.total (texts (spelled_by l.names) (drop l.row-index l.rows))
