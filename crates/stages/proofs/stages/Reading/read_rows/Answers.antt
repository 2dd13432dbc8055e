use Rattle.wire.proofs.StepLaws.{field_steps}
use Rattle.stages.specs.Stages.{read_rows}
use Rattle.stages.proofs.stages.Reading.read_rows.Goals as goal

pub returns-in_err-kex : goal.returns-in_err-kex
unfolding read_rows
returns-in_err-kex c = search field_steps depth 8

pub returns : goal.returns
unfolding read_rows
returns c = rw (← c.stands_in-offered.ensures) (search field_steps depth 8)
