use Rattle.wire.proofs.FieldLaws.{rest_min}
use Rattle.wire.proofs.cursor.Cursor.rest.Goals as goal

pub returns-clause-part : goal.returns-clause-part
returns-clause-part c = rest_min _ _ _ c.min.ensures
