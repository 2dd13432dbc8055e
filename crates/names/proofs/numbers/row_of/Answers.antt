-- A row of the one table is a row of the kind's names. Assumes nothing.
use mathlib.Core.Path.{◌∙◌}
use native.Mathlib.Omega.{arith}
use Rattle.names.proofs.LookupLaws.{kind_room, kind_row}
use Rattle.names.proofs.ConstantLaws.{constant_from}
use Rattle.names.proofs.numbers.row_of.Goals as goal

pub overflow_add-to : goal.overflow_add-to
overflow_add-to c = omega (arith, kind_room _ _ _ c.first_row-from.ensures c.count.ensures)

pub returns : goal.returns
returns c =
    c.find.ensures ∙ (constant_from _ c.columns.ensures _ _ _ ∙ kind_row _ _ _ _ c.first_row-from.ensures c.count.ensures)
