-- A struct that crosses the border says what it is (0 refused, 1 done, 2 need, 3 unknown), the number of a refusal, its
-- offset if it is a reader's, and the values; what is not used is 0. Each has one definition: here those of what was written
-- and of a place.
use Rattle.std.specs.Prelude.{ℕ}
use Rattle.answer.specs.Answer.{Out, refused, done}
use Rattle.wire.specs.declared.place.Place.{Place}
use Rattle.shapes.specs.declared.Written.{Written}
use Rattle.shapes.specs.declared.Shown.{Shown}

unfoldable pub written_of : Out ℕ → Written
written_of (refused r) = record { what = 0; number = r.number; len = 0 }
written_of (done n) = record { what = 1; number = 0; len = n }

-- a part cannot cross: its place does
unfoldable pub shown_of : {A : Type 0} → Place → Out A → Shown
shown_of p (refused r) = record { what = 0; number = r.number; offset = r.offset; start = 0; len = 0 }
shown_of p (done part) = record { what = 1; number = 0; offset = 0; start = p.start; len = p.len }
