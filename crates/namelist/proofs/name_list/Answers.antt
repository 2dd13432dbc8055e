use Rattle.namelist.specs.Judged.{name_list}
use Rattle.wire.proofs.StepLaws.{field_steps}
use Rattle.namelist.proofs.JudgeLaws.{list_laws}
use Rattle.namelist.proofs.name_list.Goals as goal

pub returns-in_err-p : goal.returns-in_err-p
unfolding name_list
returns-in_err-p c = search field_steps

pub returns-in-Ok : goal.returns-in-Ok
returns-in-Ok c = search (list_laws, c.in_ok-p.ensures)

pub returns-in-Err : goal.returns-in-Err
returns-in-Err c = search (list_laws, c.in_ok-p.ensures)
