use Rattle.wire.proofs.StepLaws.{field_steps}
use Rattle.stages.specs.Stages.{last_fields}
use Rattle.stages.proofs.stages.Reading.last_fields.Goals as goal

pub returns-in_err-follows : goal.returns-in_err-follows
unfolding last_fields
returns-in_err-follows c = search field_steps depth 8

pub returns-in_err-c : goal.returns-in_err-c
unfolding last_fields
returns-in_err-c c = search field_steps depth 8

pub returns-in_err-end : goal.returns-in_err-end
unfolding last_fields
returns-in_err-end c = search field_steps depth 8

pub returns : goal.returns
unfolding last_fields
returns c = search field_steps depth 8
