use Rattle.names.proofs.RowLaws.{walk_laws}
use Rattle.names.proofs.rows.Columns.find.Goals as goal

pub returns-then-spells : goal.returns-then-spells
returns-then-spells c = search walk_laws

pub loop-row-preserved : goal.loop-row-preserved
loop-row-preserved c = search walk_laws

pub returns : goal.returns
returns c = search walk_laws
