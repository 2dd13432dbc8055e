use mathlib.Core.Path.{sym, ◌∙◌}
use Rattle.filters.proofs.MadeLaws.{start, keep_end, keep_in, keep_out}
use Rattle.filters.proofs.picked.Goals as goal
use Rattle.filters.proofs.picked.Goals.{then-keep, else-keep}

pub loop-n-init : goal.loop-n-init
loop-n-init g c = λ p k. start c.new-list.result c.new-list.ensures _

pub loop-n-preserved : goal.loop-n-preserved
loop-n-preserved g c = λ p k.
    let left = c.loop-n.invariant p k in
    let e = sym (k _ _ c.keep.ensures) in
    elim c.if-keep.branch [
      | then-keep w ↦ rw (w.list-is, w.push.ensures) (keep_in p _ _ _ _ left c.loop-n-test.true (e ∙ w.if-keep.true))
      | else-keep w ↦ rw w.list-is (keep_out p _ _ _ _ left c.loop-n-test.true (e ∙ w.if-keep.false))
    ]

pub returns : goal.returns
returns g c = λ p k. keep_end p _ _ _ _ (c.loop-n.invariant p k) c.loop-n-test.false
