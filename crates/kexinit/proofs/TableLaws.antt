-- A list of rows of the name table, as the code is handed it: it has a name for each row. Assumes nothing.
use mathlib.Core.Path.{◌≡◌, refl}
use mathlib.Core.Bool.{true}
use mathlib.Core.List.{List, [], ◌∷◌}
use Prim.Native.Nat.{ℕ}
use native.Mathlib.Omega.{arith}
use borrow.Author.Tests.{ltb-true}
use lib.ListN.{length}
use Rattle.answer.specs.Answer.{done, ◌>>=◌}
use Rattle.answer.proofs.Laws.{and_left, and_right}
use Rattle.put.proofs.PutLaws.{string_short}
use Rattle.commas.specs.Cut.{join, every}
use Rattle.names.specs.Tables.{all_names}
use Rattle.names.specs.Spelled.{name_at}
use Rattle.names.proofs.RowLaws.{entry_in}
use Rattle.choice.specs.Rows.{row_spelled, spelled_rows}
use Rattle.lists.specs.Lists.{names_by, list_by}
use Rattle.lists.specs.Texts.{texts, length_by}
use Rattle.negotiation.specs.KexInit.{text_field, list_field}
use Rattle.negotiation.proofs.FewLaws.{is_row, Few}

-- the texts that are measured are the names
pub texts_rows : (rs : List ℕ) → every is_row rs ≡ true → texts (name_at all_names) rs ≡ spelled_rows rs
unfolding texts row_spelled
texts_rows [] h = refl
texts_rows (r ∷ rs) h =
    let l = ltb-true r (length all_names) (and_left (is_row r) (every is_row rs) h) in
    rw (entry_in [] all_names r l, texts_rows rs (and_right (is_row r) (every is_row rs) h))

names_rows : (rs : List ℕ) → every is_row rs ≡ true → names_by (name_at all_names) rs ≡ done (spelled_rows rs)
unfolding names_by row_spelled ◌>>=◌
names_rows [] h = refl
names_rows (r ∷ rs) h =
    let l = ltb-true r (length all_names) (and_left (is_row r) (every is_row rs) h) in
    rw (entry_in [] all_names r l, names_rows rs (and_right (is_row r) (every is_row rs) h))

module _ (rs : List ℕ) (few : Few rs) where
  -- a list that is handed over: what is put of it, and its length
  pub list_handed : list_by (name_at all_names) rs ≡ done (list_field (spelled_rows rs))
  unfolding list_by text_field ◌>>=◌
  list_handed =
      rw (names_rows rs few.in_table) (string_short (join (spelled_rows rs)) (omega (arith, few.bytes)))

  pub length_handed : length_by (name_at all_names) rs ≡ length (join (spelled_rows rs))
  length_handed = rw (texts_rows rs few.in_table) (omega (arith, few.bytes))
