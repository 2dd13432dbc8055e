-- Each answer by the law of its end; where `lacks` said no, the byte is inside the buffer. Assumes nothing.
use mathlib.Core.Path.{sym, ◌∙◌}
use native.Mathlib.Omega.{arith}
use borrow.Author.Tests.{ltb-false}
use Rattle.put.proofs.CodeLaws.{code}
use Rattle.put.proofs.put_u8.Goals as goal

pub returns-then-lacks : goal.returns-then-lacks
returns-then-lacks c = search code

pub bounds-out-at : goal.bounds-out-at
bounds-out-at c = omega (arith, ltb-false, sym c.lacks.ensures ∙ c.if-lacks.false)

pub returns : goal.returns
returns c = search code
