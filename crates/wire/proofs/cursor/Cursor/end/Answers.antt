use Rattle.wire.proofs.FieldLaws.{field_laws}
use Rattle.wire.proofs.cursor.Cursor.end.Goals as goal

pub returns-then-s-self : goal.returns-then-s-self
returns-then-s-self c = search field_laws

pub returns : goal.returns
returns c = search field_laws
