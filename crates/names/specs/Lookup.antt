-- Looking a name up. Over the lists of names: the first place of a name. Over any three columns, spellings, starts and
-- lengths, as the code has them: the first row from one place on that spells the name.
use Rattle.std.specs.Prelude.{Bool, false, List, [], ◌∷◌, ℕ, suc, zero, ◌+◌, Option as Maybe, Some, None}
use Rattle.std.proofs.Math.Option.{Option, some, none}
use Rattle.answer.specs.Answer.{Out, refused, done, pick}
use Rattle.text.specs.Same.{same}
use Rattle.names.specs.declared.Kind.{Kind}
use Rattle.names.specs.Tables.{names_of}
use Rattle.names.specs.Spelled.{row_name}

-- the first place at which a name stands, counted from n
unfoldable pub place_from : ℕ → List ℕ → List (List ℕ) → Option ℕ
place_from n name [] = none
place_from n name (m ∷ ms) = pick (same m name) (some n) (place_from (n + 1) name ms)

-- a name's number in its kind
unfoldable pub number_of : Kind → List ℕ → Option ℕ
number_of k name = place_from 0 name (names_of k)

-- a number of a kind, counted from its first row on
abbrev pub onward : ℕ → Option ℕ → Option ℕ
onward first none = none
onward first (some n) = some (first + n)

-- a row that is there spells this name
abbrev pub is : Out (List ℕ) → List ℕ → Bool
is (refused r) name = false
is (done x) name = same x name

module _ (spellings starts lengths : List ℕ) where
  -- the first of n rows from i on that spells the name
  unfoldable pub row_from : List ℕ → ℕ → ℕ → Option ℕ
  row_from name i zero = none
  row_from name i (suc n) = pick (is (row_name spellings starts lengths i) name) (some i) (row_from name (i + 1) n)

-- what a look-up answers means
abbrev pub found : Maybe ℕ → Option ℕ
found (Some n) = some n
found None = none

abbrev pub found_row : Maybe ℕ → Option ℕ
found_row r = found r
