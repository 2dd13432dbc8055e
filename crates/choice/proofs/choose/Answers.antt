use Rattle.choice.proofs.WalkLaws.{side_laws}
use Rattle.choice.proofs.choose.Goals as goal

pub returns-in-Client : goal.returns-in-Client
returns-in-Client c = search side_laws

pub returns-in-Server : goal.returns-in-Server
returns-in-Server c = search side_laws
