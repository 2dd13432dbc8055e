-- UTF-8 as the grammar of RFC 3629 section 4 is read: UTF8-octets = *( UTF8-char ), a relation beside the test `utf8`.
use mathlib.Core.List.{List, [], ◌∷◌, ◌++◌, Memᴰ}
use Rattle.std.specs.Prelude.{ℕ, ◌≤◌}
use Rattle.text.specs.Utf8.{Range, rows}

-- the bytes lie in the ranges, one by one
pub data Matches : List Range → List ℕ → Type 0 where
  end : Matches [] []
  byte : {r : Range} {row : List Range} {b : ℕ} {c : List ℕ} → r.low ≤ b → b ≤ r.high → Matches row c → Matches (r ∷ row) (b ∷ c)

-- nothing, or a character by one of the rows and then more
pub data Octets : List ℕ → Type 0 where
  empty : Octets []
  char : {row : List Range} {c s : List ℕ} → Memᴰ row rows → Matches row c → Octets s → Octets (c ++ s)
