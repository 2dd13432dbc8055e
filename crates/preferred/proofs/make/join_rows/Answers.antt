use Rattle.preferred.proofs.OwnLaws.{row_known, rows_end, rows_on}
use Rattle.preferred.proofs.make.join_rows.Goals as goal

pub row-requires : goal.row-requires
row-requires c = search row_known

pub loop-n-preserved : goal.loop-n-preserved
loop-n-preserved c = rw c.push.ensures (rows_on _ _ _ _ _ c.loop-n.invariant c.loop-n-test.true _ c.row.ensures)

pub returns : goal.returns
returns c = rows_end _ _ _ _ _ c.loop-n.invariant c.loop-n-test.false
