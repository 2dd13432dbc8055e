use Rattle.framing.proofs.SealingLaws.{zeros_laws, sealed}
use Rattle.framing.proofs.sealing.seal.Goals as goal

pub overflow_sub-len : goal.overflow_sub-len
overflow_sub-len c = search zeros_laws

pub fill_padding-requires : goal.fill_padding-requires
fill_padding-requires c = search zeros_laws

pub returns : goal.returns
returns c = search sealed
