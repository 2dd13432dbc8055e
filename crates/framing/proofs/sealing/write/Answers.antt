use Rattle.framing.proofs.SealingLaws.{write_laws}
use Rattle.framing.proofs.sealing.write.Goals as goal

pub returns-clause-answer : goal.returns-clause-answer
returns-clause-answer c = search write_laws
