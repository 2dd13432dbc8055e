-- A place that was shown, or not, as the struct that says so. Assumes nothing.
use mathlib.Core.Path.{◌≡◌}
use Prim.Native.Nat.{ℕ}
use Rattle.answer.specs.Answer.{Out, done, refuse}
use Rattle.wire.specs.declared.place.Place.{Place}
use Rattle.shapes.specs.declared.Shown.{Shown}
use Rattle.shapes.specs.Shapes.{shown_of}

module _ {A : Type 0} (p : Place) (o : Out A) (n k i l : ℕ) where
  pub shown_inside : (part : A) → done part ≡ o → n ≡ 0 → k ≡ 0
      → ◌≡◌ {A = Shown} (record { what = 1; number = n; offset = k; start = p.start; len = p.len }) (shown_of p o)
  unfolding shown_of
  shown_inside part e f g = rw (f, g, ← e)

  pub shown_outside : (m : ℕ) → refuse m ≡ o → n ≡ m → k ≡ 0 → i ≡ 0 → l ≡ 0
      → ◌≡◌ {A = Shown} (record { what = 0; number = n; offset = k; start = i; len = l }) (shown_of p o)
  unfolding shown_of
  shown_outside m e f g h j = rw (f, g, h, j, ← e)

pub ruleset shown_laws = (shown_inside, shown_outside)
