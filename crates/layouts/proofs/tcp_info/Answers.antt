use Rattle.layouts.specs.Types.{tcpip}
use Rattle.layouts.proofs.StepLaws.{steps, exact_on, exact_out}
use Rattle.layouts.proofs.tcp_info.Goals as goal

pub returns-in_err-host_to_connect : goal.returns-in_err-host_to_connect
unfolding tcpip
returns-in_err-host_to_connect c made = search steps

pub returns-in_err-port_to_connect : goal.returns-in_err-port_to_connect
unfolding tcpip
returns-in_err-port_to_connect c made = search steps

pub returns-in_err-originator_address : goal.returns-in_err-originator_address
unfolding tcpip
returns-in_err-originator_address c made = search steps

pub returns-in_err-originator_port : goal.returns-in_err-originator_port
unfolding tcpip
returns-in_err-originator_port c made = search steps

pub returns-in_err-end : goal.returns-in_err-end
unfolding tcpip
returns-in_err-end c made = search (steps, exact_out)

pub returns : goal.returns
unfolding tcpip
returns c made = search (steps, exact_on)
