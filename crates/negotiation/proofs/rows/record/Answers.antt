use Rattle.negotiation.specs.Rows.{recorded}
use Rattle.negotiation.proofs.rows.record.Goals as goal

pub returns : goal.returns
unfolding recorded
returns c = rw (c.key_number.ensures, c.number.ensures, c.number-2.ensures, c.number-3.ensures, c.number-4.ensures, c.number-5.ensures)
