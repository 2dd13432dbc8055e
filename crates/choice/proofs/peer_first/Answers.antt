use Rattle.choice.proofs.WalkLaws.{peer_laws}
use Rattle.choice.proofs.peer_first.Goals as goal

pub at_place-requires : goal.at_place-requires
at_place-requires c = search peer_laws

pub returns-in-Some-position : goal.returns-in-Some-position
returns-in-Some-position c = search peer_laws

pub loop-p-smaller : goal.loop-p-smaller
loop-p-smaller c = search peer_laws

pub loop-p-preserved : goal.loop-p-preserved
loop-p-preserved c = search peer_laws

pub returns : goal.returns
returns c = search peer_laws
