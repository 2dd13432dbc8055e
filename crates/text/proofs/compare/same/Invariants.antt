-- Loop: what is compared so far, and what is left, give the answer. Assumes nothing.
use mathlib.Core.Bool.{◌&&◌}
use mathlib.Core.Path.{◌≡◌}
use lib.ListN.{length}
use Rattle.std.specs.Iterator.Adapters.{zip_first, zip_second}
use Rattle.std.specs.Slice.Iter.{iter_rest}
use Rattle.text.specs.Same.{same}
use Rattle.text.proofs.compare.same.Given as goal

abbrev pub invariant-loop-x : goal.invariant-loop-x
invariant-loop-x l =
    (length (iter_rest (zip_first l.x-iterator)) ≡ length (iter_rest (zip_second l.x-iterator)))
    × (same l.a l.b ≡ (l.ok && same (iter_rest (zip_first l.x-iterator)) (iter_rest (zip_second l.x-iterator))))
