-- A row of a table: what was tried, the definitions' answer as numbers, and document 01's.
use Rattle.std.specs.Prelude.{List, [], ◌∷◌, ℕ}
use Prim.Native.String.{String}
use Rattle.answer.specs.Answer.{pick}
use Rattle.text.specs.Same.{same}

pub record Row : Type 0 where
  pub tried : String
  pub answer : List ℕ
  pub expected : List ℕ

abbrev pub row : String → List ℕ → List ℕ → Row
row tried answer expected = record { tried = tried; answer = answer; expected = expected }

-- the rows whose answer is not document 01's
abbrev pub wrong : List Row → List Row
wrong [] = []
wrong (r ∷ rs) = pick (same r.answer r.expected) (wrong rs) (r ∷ wrong rs)
