-- What is left to write gives the same buffer and the same end. Assumes nothing.
use Rattle.commas.specs.Cut.{join}
use Rattle.names.specs.Spelled.{spelled_by}
use Rattle.lists.specs.Texts.{texts}
use Rattle.lists.proofs.StoreLaws.{Left, from}
use Rattle.lists.proofs.store_names.Given as goal

abbrev pub invariant-loop-row : goal.invariant-loop-row
invariant-loop-row l = Left l.initial.out l.at (join (texts (spelled_by l.names) l.rows)) l.out l.p (from (spelled_by l.names) l.front l.last l.row-index)
