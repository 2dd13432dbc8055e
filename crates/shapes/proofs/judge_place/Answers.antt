use Rattle.shapes.proofs.PlaceLaws.{shown_laws}
use Rattle.shapes.proofs.judge_place.Goals as goal

pub returns-in-Ok : goal.returns-in-Ok
returns-in-Ok c = search (shown_laws, c.in-Ok.ensures.part)

pub returns-in-Err : goal.returns-in-Err
returns-in-Err c = search (shown_laws, c.in-Err.ensures.part)
