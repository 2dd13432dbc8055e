-- The choice over any two lists of names (document 01, "Choice"; RFC 4253 section 7.1).
use Rattle.std.specs.Prelude.{◌≡◌, Bool, true, false, not, ◌||◌, List, [], ◌∷◌, ◌++◌, ℕ}
use Rattle.std.proofs.Math.Option.{Option, some, none}
use Rattle.answer.specs.Answer.{pick}
use Rattle.text.specs.Same.{same}
use Rattle.commas.specs.Cut.{every}
use Rattle.choice.specs.declared.Side.{Side}
use Rattle.choice.specs.declared.Side.TheVariants.{Client, Server}

-- the first of xs that passes a test against y
unfoldable pub first : {X Y : Type 0} → (X → Y → Bool) → List X → Y → Option X
first test [] y = none
first test (x ∷ xs) y = pick (test x y) (some x) (first test xs y)

unfoldable pub listed : List ℕ → List (List ℕ) → Bool
listed name [] = false
listed name (m ∷ ms) = same m name || listed name ms

-- those of which a test holds, in order
unfoldable pub kept : {X : Type 0} → (X → Bool) → List X → List X
kept f [] = []
kept f (x ∷ xs) = pick (f x) (x ∷ kept f xs) (kept f xs)

-- "the client's first name that the server lists"
unfoldable pub first_shared : List (List ℕ) → List (List ℕ) → Option (List ℕ)
first_shared client server = first listed client server

-- what that is: a name which the server lists, and none of the client's before it
pub record First (client server : List (List ℕ)) (name : List ℕ) : Type 0 where
  pub before : List (List ℕ)
  pub after : List (List ℕ)
  pub stands : client ≡ before ++ name ∷ after
  pub not_before : every (λ c. not (listed c server)) before ≡ true
  pub lists : listed name server ≡ true

-- "no shared name"
abbrev pub NoneShared : List (List ℕ) → List (List ℕ) → Type 0
NoneShared client server = every (λ name. not (listed name server)) client ≡ true

-- at either end, over the own list and the peer's
unfoldable pub chosen : Side → List (List ℕ) → List (List ℕ) → Option (List ℕ)
chosen Client own peer = first_shared own peer
chosen Server own peer = first_shared peer own

-- "“Both first” holds if that is the first entry of each list."
unfoldable pub both_first : List (List ℕ) → List (List ℕ) → Bool
both_first [] peer = false
both_first (a ∷ own) [] = false
both_first (a ∷ own) (b ∷ peer) = same a b
