use Rattle.wire.proofs.StepLaws.{field_steps}
use Rattle.stages.specs.Stages.{macs}
use Rattle.stages.proofs.stages.Reading.macs.Goals as goal

pub returns-in_err-client : goal.returns-in_err-client
unfolding macs
returns-in_err-client c = rw (← c.row_rule-rule.ensures) (search field_steps depth 8)

pub returns-in_err-server : goal.returns-in_err-server
unfolding macs
returns-in_err-server c = rw (← c.row_rule-rule.ensures) (search field_steps depth 8)

pub returns : goal.returns
unfolding macs
returns c = rw (← c.row_rule-rule.ensures) (search field_steps depth 8)
