use Rattle.layouts.specs.Types.{direct_stream_local}
use Rattle.layouts.proofs.StepLaws.{steps}
use Rattle.layouts.proofs.direct_stream_local.Goals as goal

pub returns-in_err-socket_path : goal.returns-in_err-socket_path
unfolding direct_stream_local
returns-in_err-socket_path c = search steps

pub returns-in_err-c : goal.returns-in_err-c
unfolding direct_stream_local
returns-in_err-c c = search steps

pub returns-in_err-c-2 : goal.returns-in_err-c-2
unfolding direct_stream_local
returns-in_err-c-2 c = search steps

pub returns : goal.returns
unfolding direct_stream_local
returns c = search steps
