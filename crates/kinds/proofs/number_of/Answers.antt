use Rattle.kinds.specs.Numbers.{numbered}
use Rattle.kinds.proofs.KindLaws.{kind_on, kind_off}
use Rattle.kinds.proofs.number_of.Goals as goal

pub returns-in-Ok : goal.returns-in-Ok
unfolding numbered
returns-in-Ok c = rw (kind_on _ _ _ c.in-Ok.ensures, c.into.ensures, c.lookup.ensures)

pub returns-in-Err : goal.returns-in-Err
unfolding numbered
returns-in-Err c = rw (kind_off _ _ _ c.in-Err.ensures, c.number.ensures, c.default.ensures.1.1)
