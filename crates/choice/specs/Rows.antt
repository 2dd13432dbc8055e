-- The same choice as the code makes it: the own list is one of rows of a table, and a row is chosen. Over any test of
-- whether a row spells a name, so over any table.
use Rattle.std.specs.Prelude.{Bool, false, ◌||◌, List, [], ◌∷◌, map, ℕ, ◌+◌, ltb, length, get_or, Option as Maybe}
use Rattle.std.proofs.Math.Option.{Option, some, none, or_else}
use Rattle.answer.specs.Answer.{pick}
use Rattle.names.specs.Tables.{all_names}
use Rattle.names.specs.declared.rows.Columns.{Columns}
use Rattle.names.specs.Spelled.{row_name, spelled_by, name_at}
use Rattle.names.specs.Lookup.{is, found}
use Rattle.choice.specs.Choice.{first}
use Rattle.choice.specs.declared.Side.{Side}
use Rattle.choice.specs.declared.Side.TheVariants.{Client, Server}

module _ (spells : ℕ → List ℕ → Bool) where
  -- a row's name stands in the list
  unfoldable pub offered : ℕ → List (List ℕ) → Bool
  offered r [] = false
  offered r (name ∷ names) = spells r name || offered r names

  -- the first own row that spells a name
  unfoldable pub row_for : List ℕ → List ℕ → Option ℕ
  row_for own name = first spells own name

  -- the client walks its own list outside
  unfoldable pub own_first : List ℕ → List (List ℕ) → Option ℕ
  own_first own peer = first offered own peer

  -- the server walks the peer's
  unfoldable pub peer_first : List ℕ → List (List ℕ) → Option ℕ
  peer_first own [] = none
  peer_first own (name ∷ peer) = or_else (row_for own name) (peer_first own peer)

  unfoldable pub chosen_row : Side → List ℕ → List (List ℕ) → Option ℕ
  chosen_row Client own peer = own_first own peer
  chosen_row Server own peer = peer_first own peer

  -- "both first": the first own row spells the peer's first name
  unfoldable pub first_both : List ℕ → List (List ℕ) → Bool
  first_both [] peer = false
  first_both (r ∷ own) [] = false
  first_both (r ∷ own) (name ∷ peer) = spells r name

-- how many of xs stand before the first that passes a test against y
unfoldable pub place_of : {X Y : Type 0} → (X → Y → Bool) → List X → Y → ℕ
place_of test [] y = 0
place_of test (x ∷ xs) y = pick (test x y) 0 (place_of test xs y + 1)

-- the row at a place of the own list
unfoldable pub row_at : List ℕ → ℕ → Option ℕ
row_at own k = pick (ltb k (length own)) (some (get_or own k 0)) none

-- a row of three columns spells a name; a row of the name table does
abbrev pub spells_in : List ℕ → List ℕ → List ℕ → ℕ → List ℕ → Bool
spells_in spellings starts lengths r name = is (row_name spellings starts lengths r) name

abbrev pub spells_by : Columns → ℕ → List ℕ → Bool
spells_by t r name = is (spelled_by t r) name

abbrev pub spells_name : ℕ → List ℕ → Bool
spells_name r name = is (name_at all_names r) name

-- the name that a row of the name table spells
unfoldable pub row_spelled : ℕ → List ℕ
row_spelled r = get_or all_names r []

abbrev pub spelled_rows : List ℕ → List (List ℕ)
spelled_rows rows = map row_spelled rows

-- what a choice answers means
abbrev pub chose : Maybe ℕ → Option ℕ
chose r = found r
