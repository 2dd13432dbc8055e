use mathlib.Core.Path.{ap, ◌∙◌}
use native.Mathlib.Omega.{arith}
use borrow.Author.Rules.{rules}
use lib.ListN.{length}
use lib.Seq.{take_all, length-sets}
use Rattle.put.proofs.CodeLaws.{copied}
use Rattle.put.proofs.store_bytes.Goals as goal

pub bounds-out-at : goal.bounds-out-at
bounds-out-at c = omega (arith, simp length-sets at (ap length c.loop-j.invariant.1))

pub loop-j-preserved : goal.loop-j-preserved
loop-j-preserved c = (search rules, copied _ _ _ _ _ c.loop-j-test.true c.loop-j.invariant.1)

pub shape_of-out : goal.shape_of-out
shape_of-out c = ap length c.loop-j.invariant.1 ∙ simp length-sets

pub returns : goal.returns
returns c = record { next = omega arith; bytes = c.loop-j.invariant.1 ∙ simp (take_all, c.loop-j-test.false) }
