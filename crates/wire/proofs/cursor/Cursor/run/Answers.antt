use Rattle.wire.specs.Fields.{run}
use Rattle.wire.proofs.RunLaws.{run_laws, word_inside}
use Rattle.wire.proofs.StepLaws.{field_steps}
use Rattle.wire.proofs.cursor.Cursor.run.Goals as goal

pub returns-in_err-n : goal.returns-in_err-n
unfolding run
returns-in_err-n c = search field_steps

pub overflow_sub-s : goal.overflow_sub-s
overflow_sub-s c = word_inside _ _ _ _ c.in_ok-n.ensures

pub returns-then-s-start : goal.returns-then-s-start
returns-then-s-start c = search (run_laws, c.in_ok-n.ensures)

pub returns : goal.returns
returns c = search (run_laws, c.in_ok-n.ensures)
