-- The column's entry at the number, copied. Assumes nothing.
use Rattle.std.specs.Prelude.{false}
use Rattle.names.proofs.RowLaws.{copied_entry}
use Rattle.names.proofs.rows.flag_at.Goals as goal

pub returns : goal.returns
returns c =
    rw (c.ok_or.ensures.value, c.copied.ensures) (rw c.from.ensures at (copied_entry false _ _ _ c.get.ensures.lookup))
