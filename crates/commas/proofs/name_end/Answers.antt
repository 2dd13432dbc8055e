use native.Mathlib.Omega.{arith}
use Rattle.commas.proofs.EndLaws.{name_on, name_off, name_over}
use Rattle.commas.proofs.PlainLaws.{plain_on}
use Rattle.commas.proofs.name_end.Goals as goal

pub loop-i-preserved : goal.loop-i-preserved
loop-i-preserved c = plain_on _ _ _ _ _ _ c.loop-i.invariant c.contains.ensures.value c.if-not-contains.true (omega arith) (omega arith)

pub loop-i-2-preserved : goal.loop-i-2-preserved
loop-i-2-preserved c = search name_on

pub returns-else-list-i-ne44 : goal.returns-else-list-i-ne44
returns-else-list-i-ne44 c = search name_off

pub returns-after-loop-i-2 : goal.returns-after-loop-i-2
returns-after-loop-i-2 c = search name_over
