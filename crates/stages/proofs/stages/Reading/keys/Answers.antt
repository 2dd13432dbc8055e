use Rattle.wire.proofs.StepLaws.{field_steps}
use Rattle.stages.specs.Stages.{keys}
use Rattle.stages.proofs.stages.Reading.keys.Goals as goal

pub returns-in_err-key : goal.returns-in_err-key
unfolding keys
returns-in_err-key c = search field_steps depth 8

pub returns-in_err-cipher : goal.returns-in_err-cipher
unfolding keys
returns-in_err-cipher c = search field_steps depth 8

pub returns : goal.returns
unfolding keys
returns c = search field_steps depth 8
