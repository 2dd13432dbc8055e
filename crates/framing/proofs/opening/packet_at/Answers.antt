use Rattle.framing.proofs.OpeningLaws.{packet_is}
use Rattle.framing.proofs.opening.packet_at.Goals as goal

pub returns : goal.returns
returns c = search packet_is
