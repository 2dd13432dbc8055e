use mathlib.Core.Path.{sym, ◌∙◌}
use Rattle.filters.proofs.MadeLaws.{once_end, once_other, once_held, once_added}
use Rattle.filters.proofs.join_kind.Goals as goal
use Rattle.filters.proofs.join_kind.Goals.{then-kind_of-kind+then-not-contains, else-kind_of-kind, else-kind_of-kind-via-then-kind_of-kind+else-not-contains, else-kind_of-kind-via-else-kind_of-kind}

pub loop-n-preserved : goal.loop-n-preserved
loop-n-preserved c =
    let left = c.loop-n.invariant in
    let h = c.loop-n-test.true in
    let of = sym c.kind_of.ensures in
    elim c.if-kind_of-kind.branch [
      | then-kind_of-kind+then-not-contains w ↦
          rw (w.names-is, w.push.ensures) (once_added _ _ _ _ _ left h (of ∙ w.if-kind_of-kind.true) _ (rw w.deref.ensures.0 at w.contains.ensures.value) w.if-not-contains.true)
      | else-kind_of-kind w ↦ rw w.names-is (elim w.else-kind_of-kind.branch [
        | else-kind_of-kind-via-then-kind_of-kind+else-not-contains w' ↦
            once_held _ _ _ _ _ left h (of ∙ w'.if-kind_of-kind.true) _ (rw w'.deref.ensures.0 at w'.contains.ensures.value) w'.if-not-contains.false
        | else-kind_of-kind-via-else-kind_of-kind w' ↦ once_other _ _ _ _ _ left h (λ e. w'.if-kind_of-kind.false (c.kind_of.ensures ∙ e))
      ])
    ]

pub returns : goal.returns
returns c = once_end _ _ _ _ _ c.loop-n.invariant c.loop-n-test.false
