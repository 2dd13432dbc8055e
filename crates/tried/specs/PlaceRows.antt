-- "A place that does not lie inside the slice lent is refused with 2" (document 01, "Channel opening"), with offset 0
-- (document 02, No. 6).
use Rattle.std.specs.Prelude.{List, [], ◌∷◌, ℕ}
use Rattle.text.specs.Literal.{bytes}
use Rattle.wire.specs.Shown.{shown}
use Rattle.tried.specs.Row.{Row, row}
use Rattle.tried.specs.Trials.{refuses_at, gives, answered}

-- a place of `session`, by its start and its length: the bytes that are shown
abbrev shows : ℕ → ℕ → List ℕ
shows start len = answered (λ (s : List ℕ). gives s) (shown (bytes "session") (record { start = start; len = len }))

unfoldable pub place_rows : List Row
place_rows =
    row "inside" (shows 1 3) (gives (bytes "ess"))
    ∷ row "the whole" (shows 0 7) (gives (bytes "session"))
    ∷ row "up to the end" (shows 4 3) (gives (bytes "ion"))
    ∷ row "one past the end" (shows 4 4) (refuses_at 2 0)
    ∷ row "empty inside" (shows 3 0) (gives [])
    ∷ row "empty at the very end" (shows 7 0) (gives [])
    ∷ row "empty past the end" (shows 8 0) (refuses_at 2 0)
    ∷ row "a byte at the very end" (shows 7 1) (refuses_at 2 0)
    ∷ row "a start and a length that each lie far outside" (shows 18446744073709551615 18446744073709551615) (refuses_at 2 0)
    ∷ []
