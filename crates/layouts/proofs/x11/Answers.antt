use Rattle.layouts.specs.Types.{x11}
use Rattle.layouts.proofs.StepLaws.{steps}
use Rattle.layouts.proofs.x11.Goals as goal

pub returns-in_err-originator_address : goal.returns-in_err-originator_address
unfolding x11
returns-in_err-originator_address c = search steps

pub returns-in_err-originator_port : goal.returns-in_err-originator_port
unfolding x11
returns-in_err-originator_port c = search steps

pub returns : goal.returns
unfolding x11
returns c = search steps
