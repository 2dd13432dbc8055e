-- The test by a difference is the test by the sum. Assumes nothing.
use Rattle.put.proofs.CodeLaws.{by_difference, past}
use Rattle.put.proofs.lacks.Goals as goal

pub returns-then-at-len : goal.returns-then-at-len
returns-then-at-len c = by_difference _ _ _ c.if-at-len.true

pub returns : goal.returns
returns c = past _ _ _ c.if-at-len.false
