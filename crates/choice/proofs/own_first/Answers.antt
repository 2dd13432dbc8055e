use Rattle.choice.proofs.WalkLaws.{own_laws}
use Rattle.choice.proofs.own_first.Goals as goal

pub at_place-requires : goal.at_place-requires
at_place-requires c = search own_laws

pub returns-then-best-eq0 : goal.returns-then-best-eq0
returns-then-best-eq0 c = search own_laws

pub loop-p-smaller : goal.loop-p-smaller
loop-p-smaller c = search own_laws

pub loop-p-preserved : goal.loop-p-preserved
loop-p-preserved c = search own_laws

pub returns : goal.returns
returns c = search own_laws
