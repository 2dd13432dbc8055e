use Rattle.wire.proofs.StepLaws.{field_steps}
use Rattle.stages.specs.Stages.{languages}
use Rattle.stages.proofs.stages.Reading.languages.Goals as goal

pub returns-in_err-c : goal.returns-in_err-c
unfolding languages
returns-in_err-c c = search field_steps depth 8

pub returns-in_err-c-2 : goal.returns-in_err-c-2
unfolding languages
returns-in_err-c-2 c = search field_steps depth 8

pub returns : goal.returns
unfolding languages
returns c = search field_steps depth 8
