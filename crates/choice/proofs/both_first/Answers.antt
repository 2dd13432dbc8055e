use Rattle.choice.proofs.WalkLaws.{both_laws}
use Rattle.choice.proofs.both_first.Goals as goal

pub returns-in_default : goal.returns-in_default
returns-in_default c = search both_laws

pub returns-then-is_empty : goal.returns-then-is_empty
returns-then-is_empty c = search both_laws

pub at_place-requires : goal.at_place-requires
at_place-requires c = search both_laws

pub returns : goal.returns
returns c = search both_laws
