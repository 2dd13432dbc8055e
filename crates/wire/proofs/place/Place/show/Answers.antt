use Rattle.wire.proofs.ShowLaws.{show_laws}
use Rattle.wire.proofs.place.Place.show.Goals as goal

pub returns-then-s-self-clause-part : goal.returns-then-s-self-clause-part
returns-then-s-self-clause-part c = search show_laws

pub returns-then-s-self-2-clause-part : goal.returns-then-s-self-2-clause-part
returns-then-s-self-2-clause-part c = search show_laws

pub returns-clause-part : goal.returns-clause-part
returns-clause-part c = search show_laws
