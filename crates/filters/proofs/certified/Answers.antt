use Rattle.std.proofs.lemmas.Slice.Zip.{Zip-more, either_empty_from_Zip}
use Rattle.filters.proofs.MadeLaws.{certified_end, certified_in, certified_out}
use Rattle.filters.proofs.certified.Goals as goal

pub loop-kind-preserved-then-contains : goal.loop-kind-preserved-then-contains
loop-kind-preserved-then-contains c =
    let more = Zip-more c.loop-kind.kind-iterator c.next.new.self c.next.result (c.in-Some.field-0-0, c.in-Some.id) c.in-Some.is c.next.ensures.steps in
    rw c.join_kind.ensures (certified_in _ _ _ _ _ _ c.loop-kind.invariant _ _ _ _ more.0 more.1 _ c.contains.ensures.value c.if-contains.true)

pub loop-kind-preserved : goal.loop-kind-preserved
loop-kind-preserved c =
    let more = Zip-more c.loop-kind.kind-iterator c.next.new.self c.next.result (c.in-Some.field-0-0, c.in-Some.id) c.in-Some.is c.next.ensures.steps in
    certified_out _ _ _ _ _ _ c.loop-kind.invariant _ _ _ _ more.0 more.1 _ c.contains.ensures.value c.if-contains.false

pub returns : goal.returns
returns c = certified_end _ _ _ _ _ _ c.loop-kind.invariant (either_empty_from_Zip c.loop-kind.kind-iterator c.next.new.self c.next.result c.in-None.is c.next.ensures.steps)
