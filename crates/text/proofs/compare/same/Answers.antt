use mathlib.Core.Path.{refl}
use Rattle.std.proofs.lemmas.Slice.Zip.{Zip-more, either_empty_from_Zip}
use Rattle.text.proofs.SameLaws.{same_lengths, same_turn, same_end}
use Rattle.text.proofs.compare.same.Goals as goal

pub returns-then-a-b : goal.returns-then-a-b
returns-then-a-b c = search same_lengths

pub loop-x-preserved : goal.loop-x-preserved
loop-x-preserved c =
    let pair = Zip-more c.loop-x.x-iterator c.next.new.self _ _ c.in-Some.is c.next.ensures.steps in
    same_turn _ _ _ _ _ c.loop-x.invariant.0 c.loop-x.invariant.1 _ _ _ _ _ pair.0 pair.1 refl

pub returns : goal.returns
returns c = same_end _ _ _ _ _ c.loop-x.invariant.0 c.loop-x.invariant.1 (either_empty_from_Zip c.loop-x.x-iterator c.next.new.self _ c.in-None.is c.next.ensures.steps)
