use Rattle.framing.proofs.OpeningLaws.{open_laws}
use Rattle.framing.proofs.opening.open.Goals as goal

pub returns-in_err-judge_padding : goal.returns-in_err-judge_padding
returns-in_err-judge_padding c = search open_laws

pub packet_at-requires : goal.packet_at-requires
packet_at-requires c = search open_laws

pub returns : goal.returns
returns c = search open_laws
