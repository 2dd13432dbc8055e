-- Laws of judging the tables: what a walk over a list, or over the two columns of a row table, finds in the words of std.
-- Assumes nothing.
use mathlib.Core.Path.{◌≡◌, refl, ap}
use mathlib.Core.Bool.{Bool, ◌&&◌}
use mathlib.Core.List.{List, [], ◌∷◌}
use Prim.Native.Nat.{ℕ, ◌+◌, ◌<◌}
use native.Mathlib.Numerals.{add-one}
use lib.Dec.{ltb}
use lib.ListN.{length, get_or, drop}
use lib.Seq.{drop-cons}
use Rattle.std.specs.List.{list_all, zip}
use Rattle.judging.specs.Tables.{below, each_key_row}

pub next : (xs : List ℕ) (i : ℕ) → i < length xs → drop i xs ≡ get_or xs i 0 ∷ drop (i + 1) xs
next xs i h = rw add-one (drop-cons xs i 0 h)

pub list_all-below : (count : ℕ) (ns : List ℕ) → list_all (λ n. ltb n count) ns ≡ below count ns
unfolding below
list_all-below count [] = refl
list_all-below count (n ∷ ns) = ap (λ b. ltb n count && b) (list_all-below count ns)

pub list_all-zip : (f : ℕ → ℕ → Bool) (ks ids : List ℕ) → list_all (λ (r : ℕ × ℕ). f r.0 r.1) (zip ks ids) ≡ each_key_row f ks ids
unfolding each_key_row
list_all-zip f [] ids = refl
list_all-zip f (k ∷ ks) [] = refl
list_all-zip f (k ∷ ks) (i ∷ ids) = ap (λ b. f k i && b) (list_all-zip f ks ids)
