-- A row outside is refused, and nothing is put. Assumes nothing.
use mathlib.Core.Path.{sym}
use Rattle.put.proofs.WriterLaws.{handed_put}
use Rattle.names.proofs.rows.Columns.put_row.Goals as goal

pub returns-in_err-spelt : goal.returns-in_err-spelt
returns-in_err-spelt c =
    let both = handed_put _ _ _ _ _ c.from_residual.ensures (sym c.in_err-spelt.ensures) in record { answer = both.0; bytes = both.1 }
