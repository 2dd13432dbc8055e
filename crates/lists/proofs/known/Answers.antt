use Rattle.lists.proofs.WalkLaws.{known_laws}
use Rattle.lists.proofs.known.Goals as goal

pub returns-then-is_err : goal.returns-then-is_err
returns-then-is_err c = search known_laws

pub loop-row-preserved : goal.loop-row-preserved
loop-row-preserved c = search known_laws

pub returns : goal.returns
returns c = search known_laws
