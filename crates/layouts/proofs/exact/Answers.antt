use Rattle.layouts.specs.Types.{exact}
use Rattle.layouts.proofs.StepLaws.{steps}
use Rattle.layouts.proofs.exact.Goals as goal

pub returns-in_err-end : goal.returns-in_err-end
unfolding exact
returns-in_err-end c = search steps

pub returns : goal.returns
unfolding exact
returns c = search steps
