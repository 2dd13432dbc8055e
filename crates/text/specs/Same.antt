-- Bytes compared, and the highest of them.
use Rattle.std.specs.Prelude.{Bool, true, false, ◌&&◌, List, [], ◌∷◌, ℕ, max, eqb, ltb}

-- the same bytes, as many
unfoldable pub same : List ℕ → List ℕ → Bool
same [] [] = true
same [] (b ∷ t) = false
same (a ∷ s) [] = false
same (a ∷ s) (b ∷ t) = eqb a b && same s t

-- the highest byte, at least m
unfoldable pub highest : ℕ → List ℕ → ℕ
highest m [] = m
highest m (b ∷ s) = highest (max m b) s

-- US-ASCII: no byte over 127
unfoldable pub ascii : List ℕ → Bool
ascii [] = true
ascii (b ∷ s) = ltb b 128 && ascii s
