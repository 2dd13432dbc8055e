-- Names and the commas between them (RFC 4251 section 5), as src/helpers.rs of the Rust cuts a name-list
-- (docs/DIFFERENCES.md, C3, R5, R11).
use Rattle.std.specs.Prelude.{Bool, true, false, not, ◌&&◌, List, [], ◌∷◌, ◌++◌, ℕ, ◌+◌, eqb}
use Rattle.answer.specs.Answer.{pick}
use Rattle.text.specs.Same.{ascii}

-- one more byte in front of the first name
abbrev pub onto : ℕ → List (List ℕ) → List (List ℕ)
onto c [] = (c ∷ []) ∷ []
onto c (n ∷ ns) = (c ∷ n) ∷ ns

-- The names of a list: cut at each comma (44). The empty list has no name, and one comma at the very end ends the last
-- name and starts none (C3).
unfoldable pub cut : List ℕ → List (List ℕ)
cut [] = []
cut (c ∷ s) = pick (eqb c 44) ([] ∷ cut s) (onto c (cut s))

-- Writing: names joined by commas.
unfoldable pub join : List (List ℕ) → List ℕ
join [] = []
join (n ∷ []) = n
join (n ∷ (m ∷ ns)) = n ++ 44 ∷ join (m ∷ ns)

-- how many bytes stand before the first comma, or before the end
unfoldable pub name_length : List ℕ → ℕ
name_length [] = 0
name_length (c ∷ s) = pick (eqb c 44) 0 (name_length s + 1)

abbrev pub empty : List ℕ → Bool
empty [] = true
empty (b ∷ s) = false

-- a name that can stand in a list: not empty, and without a comma
abbrev pub no_comma : List ℕ → Bool
no_comma [] = true
no_comma (b ∷ s) = not (eqb b 44) && no_comma s

abbrev pub listable : List ℕ → Bool
listable s = not (empty s) && no_comma s

-- one that the rules of a list take, too
abbrev pub nameable : List ℕ → Bool
nameable s = listable s && ascii s

abbrev pub every : {A : Type 0} → (A → Bool) → List A → Bool
every f [] = true
every f (x ∷ xs) = f x && every f xs
