-- The row of the one table spells the name. Assumes nothing.
use mathlib.Core.Path.{◌∙◌}
use native.Mathlib.Omega.{arith}
use Rattle.names.proofs.SpellLaws.{refuses, row_fits, row_spells}
use Rattle.names.proofs.ConstantLaws.{constant_row}
use Rattle.put.proofs.WriterLaws.{same_put}
use Rattle.names.proofs.spell.put_name.Goals as goal

pub returns-then-count-n : goal.returns-then-count-n
returns-then-count-n c =
    let both = refuses _ _ _ c.from-n.ensures _ c.count.ensures _ _ c.if-count-n.true in
    record { answer = both.0; bytes = both.1 }

pub overflow_add-row : goal.overflow_add-row
overflow_add-row c = omega (arith, row_fits _ _ _ c.from-n.ensures _ c.count.ensures _ c.first_row.ensures c.if-count-n.false)

pub returns : goal.returns
returns c =
    let both = same_put _ _ _ _
    (constant_row _ c.columns.ensures _
    ∙ row_spells _ _ _ c.from-n.ensures _ c.count.ensures _ c.first_row.ensures c.if-count-n.false)
    (c.put_row.ensures.answer, c.put_row.ensures.bytes) in
    record { answer = both.0; bytes = both.1 }
