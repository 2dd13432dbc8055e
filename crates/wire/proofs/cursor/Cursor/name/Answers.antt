use Rattle.wire.proofs.WalkLaws.{name_laws}
use Rattle.wire.proofs.cursor.Cursor.name.Goals as goal

pub returns-then-list-at : goal.returns-then-list-at
returns-then-list-at c = search name_laws

pub returns-then-end-list : goal.returns-then-end-list
returns-then-end-list c = search name_laws

pub returns : goal.returns
returns c = search name_laws
