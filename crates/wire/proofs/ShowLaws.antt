-- Laws of a shown place. Assumes nothing.
use mathlib.Core.Path.{◌≡◌, sym}
use mathlib.Core.List.{List}
use Prim.Native.Nat.{ℕ, ◌+◌, ◌-◌, ◌≤◌, ◌<◌}
use native.Mathlib.Omega.{arith}
use native.Mathlib.Nat.{add-sub_cancel_left}
use borrow.Author.Tests.{le-leb, lt-leb}
use lib.ListN.{length, take, drop}
use Rattle.answer.specs.Answer.{refuse, done, ◌>>=◌}
use Rattle.wire.specs.declared.place.Place.{Place}
use Rattle.wire.specs.Shown.{part, shown}

module _ (s : List ℕ) (p : Place) where
  -- a place inside the slice is shown, any other is refused with 2
  pub inside : p.start + p.len ≤ length s → shown s p ≡ done (part p s)
  unfolding shown ◌>>=◌
  inside h = rw (le-leb _ _ h)

  pub outside : length s < p.start + p.len → shown s p ≡ refuse 2
  unfolding shown ◌>>=◌
  outside h = rw (lt-leb _ _ h)

  -- in the words of the code's tests
  pub late : length s < p.start → refuse 2 ≡ shown s p
  late h = sym (outside (omega arith))

  pub over : p.start ≤ length s → length s - p.start < p.len → refuse 2 ≡ shown s p
  over h k = sym (outside (omega arith))

  pub fits : p.start ≤ length s → p.len ≤ length s - p.start → done (take (p.start + p.len - p.start) (drop p.start s)) ≡ shown s p
  fits h k = rw (inside (omega arith), add-sub_cancel_left)

pub ruleset show_laws = (late, over, fits)
