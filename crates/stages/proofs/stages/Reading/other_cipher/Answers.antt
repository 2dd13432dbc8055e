use Rattle.wire.proofs.StepLaws.{field_steps}
use Rattle.stages.specs.Stages.{other_cipher}
use Rattle.stages.proofs.stages.Reading.other_cipher.Goals as goal

pub returns-in_err-c : goal.returns-in_err-c
unfolding other_cipher
returns-in_err-c c = search field_steps depth 8

pub returns : goal.returns
unfolding other_cipher
returns c = search field_steps depth 8
