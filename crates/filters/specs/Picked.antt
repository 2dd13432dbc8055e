-- The numbers that are picked out of the lent lists (document 01, "KEXINIT"; src/negotiation.rs).
use Rattle.std.specs.Prelude.{Bool, false, not, ◌||◌, List, [], ◌∷◌, ◌++◌, ℕ, eqb, leb}
use Rattle.answer.specs.Answer.{pick}
use Rattle.choice.specs.Choice.{kept}

-- a number stands in a list
unfoldable pub member : ℕ → List ℕ → Bool
member n [] = false
member n (m ∷ ms) = eqb m n || member n ms

-- those that are not among these
unfoldable pub without : List ℕ → List ℕ → List ℕ
without dropped ns = kept (λ n. not (member n dropped)) ns

-- a key number's kind: "every RSA name goes with an RSA key"
abbrev pub kind_of : ℕ → ℕ
kind_of n = pick (leb 4 n) 4 n

-- the key numbers of a kind, and those of the kinds held
unfoldable pub of_kind : ℕ → List ℕ → List ℕ
of_kind k key = kept (λ n. eqb (kind_of n) k) key

unfoldable pub held : List ℕ → List ℕ → List ℕ
held kinds key = kept (λ n. member (kind_of n) kinds) key

-- added to a list, each once
unfoldable pub added : List ℕ → List ℕ → List ℕ
added names [] = names
added names (n ∷ ns) = added (pick (member n names) names (names ++ n ∷ [])) ns

-- "Server certificate names: for each certificate row with a key row of equal identity, in row order, the preferred key
-- names of its kind (all RSA names for RSA) in preference order, each name once." (docs/DIFFERENCES.md, X7)
unfoldable pub certificates : List ℕ → List ℕ → List ℕ → List ℕ → List ℕ → List ℕ
certificates names key key_ids [] ids = names
certificates names key key_ids (k ∷ ks) [] = names
certificates names key key_ids (k ∷ ks) (i ∷ ids) =
    certificates (pick (member i key_ids) (added names (of_kind k key)) names) key key_ids ks ids
