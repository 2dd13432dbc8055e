-- What the answers of the code mean, over the slice s that was lent: document 01's number, or the values.
use Rattle.std.specs.Prelude.{List, ℕ, Option, Some, None, Result}
use Rattle.answer.specs.declared.Refusal.{Refusal as Answered}
use Rattle.answer.specs.Answer.{Out, outcome}
use Rattle.wire.specs.declared.place.Place.{Place}
use Rattle.wire.specs.declared.cursor.Cursor.{Cursor}
use Rattle.wire.specs.Fields.{At, Run, here}
use Rattle.wire.specs.Walk.{Next, none, name}
use Rattle.wire.specs.Shown.{part}

-- a value, and where the cursor behind it stands
abbrev pub read : {A : Type 0} → List ℕ → A × Cursor → A × At
read s (a, c) = (a, here s c.at)

abbrev pub got_byte : List ℕ → Result (ℕ × Cursor) Answered → Out (ℕ × At)
got_byte s r = outcome (read s) r

abbrev pub got_word : List ℕ → Result (ℕ × Cursor) Answered → Out (ℕ × At)
got_word s r = outcome (read s) r

-- the run at a place of s
abbrev pub run_at : List ℕ → Place → Run
run_at s p = record { place = p; bytes = part p s }

abbrev pub read_run : List ℕ → Place × Cursor → Run × At
read_run s (p, c) = (run_at s p, here s c.at)

abbrev pub got_text : List ℕ → Result (Place × Cursor) Answered → Out (Run × At)
got_text s r = outcome (read_run s) r

abbrev pub checked : Result (Unit {0}) Answered → Out (Unit {0})
checked r = outcome (λ u. u) r

abbrev pub next_of : List ℕ → Option (Place × Cursor) → Next
next_of s (Some (p, c)) = name (run_at s p) (here s c.at)
next_of s None = none
