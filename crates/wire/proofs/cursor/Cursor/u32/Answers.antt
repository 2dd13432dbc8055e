use Rattle.wire.proofs.FieldLaws.{field_laws}
use Rattle.wire.proofs.cursor.Cursor.u32.Goals as goal

pub returns-then-s-lt4 : goal.returns-then-s-lt4
returns-then-s-lt4 c = search field_laws

pub returns-then-s-at : goal.returns-then-s-at
returns-then-s-at c = search field_laws

pub returns : goal.returns
returns c = search field_laws
