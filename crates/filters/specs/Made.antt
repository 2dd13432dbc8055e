-- A list that is being made, number by number: a full one stays as it is.
use Rattle.std.specs.Prelude.{List, [], ◌∷◌, ◌++◌, ℕ, ltb, length}
use Rattle.answer.specs.Answer.{pick}
use Rattle.filters.specs.Picked.{member, of_kind}
use Rattle.filters.specs.Items.{Items}
pub use Rattle.filters.specs.Rows.{most_own}

-- what the code hands over: a list's rows
abbrev pub row_list : List ℕ → Items
row_list xs = record { items = xs }

-- what stands in it
abbrev pub shown : Items → List ℕ
shown l = l.items

unfoldable pub pushed : Items → ℕ → Items
pushed l n = pick (ltb (length (shown l)) most_own) (row_list (shown l ++ n ∷ [])) l

unfoldable pub joined : Items → List ℕ → Items
joined l [] = l
joined l (n ∷ ns) = joined (pushed l n) ns

-- each once
unfoldable pub joined_once : Items → List ℕ → Items
joined_once l [] = l
joined_once l (n ∷ ns) = joined_once (pick (member n (shown l)) l (pushed l n)) ns

-- for each certificate row with a key row of equal identity, the key numbers of its kind
unfoldable pub certified : Items → List ℕ → List ℕ → List ℕ → List ℕ → Items
certified l key key_ids [] ids = l
certified l key key_ids (k ∷ ks) [] = l
certified l key key_ids (k ∷ ks) (i ∷ ids) = certified (pick (member i key_ids) (joined_once l (of_kind k key)) l) key key_ids ks ids
