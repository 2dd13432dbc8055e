use Rattle.layouts.specs.Types.{channel_type}
use Rattle.layouts.specs.declared.ChannelType.TheVariants.{DirectTcpip, ForwardedTcpIp}
use Rattle.layouts.proofs.StepLaws.{names, mapped}
use Rattle.layouts.proofs.channel_type.Goals as goal

pub returns-then-same : goal.returns-then-same
unfolding channel_type
returns-then-same c = search names

pub returns-then-same-2 : goal.returns-then-same-2
unfolding channel_type
returns-then-same-2 c = search names

pub returns-then-same-3 : goal.returns-then-same-3
unfolding channel_type
returns-then-same-3 c = search (names, mapped _ _ _ DirectTcpip c.tcp_info.ensures c.map.ensures.cases)

pub returns-then-same-4 : goal.returns-then-same-4
unfolding channel_type
returns-then-same-4 c = search (names, mapped _ _ _ ForwardedTcpIp c.tcp_info-then-same-4.ensures c.map-then-same-4.ensures.cases)

pub returns-else-same-4 : goal.returns-else-same-4
unfolding channel_type
returns-else-same-4 c = search names
