use Rattle.wire.proofs.StepLaws.{field_steps}
use Rattle.stages.specs.Stages.{compressions}
use Rattle.stages.proofs.stages.Reading.compressions.Goals as goal

pub returns-in_err-client : goal.returns-in_err-client
unfolding compressions
returns-in_err-client c = search field_steps depth 8

pub returns-in_err-server : goal.returns-in_err-server
unfolding compressions
returns-in_err-server c = search field_steps depth 8

pub returns : goal.returns
unfolding compressions
returns c = search field_steps depth 8
