use Rattle.layouts.specs.Types.{openssh_type}
use Rattle.layouts.proofs.StepLaws.{names}
use Rattle.layouts.proofs.openssh_type.Goals as goal

pub returns-then-same : goal.returns-then-same
unfolding openssh_type
returns-then-same c = search names

pub returns-then-same-2 : goal.returns-then-same-2
unfolding openssh_type
returns-then-same-2 c = search names

pub returns-then-same-3 : goal.returns-then-same-3
unfolding openssh_type
returns-then-same-3 c = search names

pub returns-else-same-3 : goal.returns-else-same-3
unfolding openssh_type
returns-else-same-3 c = search names
