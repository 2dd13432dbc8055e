-- A list judged, then measured, then written.
use Rattle.std.specs.Prelude.{Bool, true, ◌&&◌, List, [], ◌∷◌, ◌++◌, map, ℕ, ◌+◌, min, length}
use Rattle.answer.specs.Answer.{Out}
use Rattle.commas.specs.Cut.{join}
use Rattle.wire.specs.Shown.{bytes_of}
use Rattle.names.specs.Spelled.{there}

module _ (name : ℕ → Out (List ℕ)) where
  -- every number has a name
  unfoldable pub named : List ℕ → Bool
  named [] = true
  named (n ∷ ns) = there (name n) && named ns

  -- the names; a number that has none counts as empty
  unfoldable pub texts : List ℕ → List (List ℕ)
  texts ns = map (λ n. bytes_of (name n)) ns

  -- how long the names are when they are joined, up to one more than the longest string
  abbrev pub length_by : List ℕ → ℕ
  length_by ns = min (length (join (texts ns))) 4294967296

-- a name and the comma after it
unfoldable pub name_and_comma : Out (List ℕ) → List ℕ
name_and_comma name = bytes_of name ++ 44 ∷ []

-- One more than the longest list with a comma after each name. Counting stops here, so that no sum wraps.
abbrev pub most : ℕ
most = 4294967297

-- how long names are with a comma after each, added to t
unfoldable pub size_from : ℕ → List (List ℕ) → ℕ
size_from t [] = t
size_from t (x ∷ xs) = size_from (min (t + (length x + 1)) most) xs
