use Rattle.layouts.specs.Types.{forwarded_stream_local}
use Rattle.layouts.proofs.StepLaws.{steps}
use Rattle.layouts.proofs.forwarded_stream_local.Goals as goal

pub returns-in_err-socket_path : goal.returns-in_err-socket_path
unfolding forwarded_stream_local
returns-in_err-socket_path c = search steps

pub returns-in_err-c : goal.returns-in_err-c
unfolding forwarded_stream_local
returns-in_err-c c = search steps

pub returns : goal.returns
unfolding forwarded_stream_local
returns c = search steps
