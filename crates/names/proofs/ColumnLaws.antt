-- Names laid out in columns: spellings one after the other, where each starts, how long each is. Row n of the columns of
-- any list of names spells name n, and the first row of a part of them is the first place in that part.
-- Assumes nothing.
use mathlib.Core.Path.{◌≡◌, refl}
use mathlib.Core.List.{List, [], ◌∷◌, ◌++◌, map, append_assoc}
use Prim.Native.Nat.{ℕ, zero, suc, ◌+◌, ◌≤◌, ◌<◌}
use native.Mathlib.Numerals.{add-one}
use native.Mathlib.Omega.{arith}
use lib.Dec.{leb-suc-suc, leb-suc-zero, leb-zero}
use lib.ListN.{length, take, drop, length-append}
use lib.Seq.{take-append_seam, drop-append_seam, drop-cons}
use borrow.Author.Tests.{le-leb}
use Rattle.answer.specs.Answer.{done, refuse, ◌>>=◌}
use Rattle.names.specs.Spelled.{entry, name_at, row_name}
use Rattle.names.specs.Lookup.{place_from, row_from}
use Rattle.names.proofs.RowLaws.{entry_in}

abbrev pub flat : List (List ℕ) → List ℕ
flat [] = []
flat (x ∷ xs) = x ++ flat xs

abbrev pub starts : ℕ → List (List ℕ) → List ℕ
starts s [] = []
starts s (x ∷ xs) = s ∷ starts (s + length x) xs

abbrev pub lengths : List (List ℕ) → List ℕ
lengths xs = map length xs

module _ {A : Type 0} (d : A) where
  pub entry_none : (n : ℕ) → entry d [] n ≡ refuse 9
  unfolding entry ◌>>=◌
  entry_none n = rw (leb-suc-zero n)

  pub entry_here : (x : A) (xs : List A) → entry d (x ∷ xs) 0 ≡ done x
  unfolding entry ◌>>=◌
  entry_here x xs = rw (leb-suc-suc 0 (length xs), leb-zero (length xs))

  pub entry_next : (x : A) (xs : List A) (n : ℕ) → entry d (x ∷ xs) (suc n) ≡ entry d xs n
  unfolding entry ◌>>=◌
  entry_next x xs n = rw (leb-suc-suc (suc n) (length xs))

-- behind any other spellings
row_after : (before : List ℕ) (names : List (List ℕ)) (n : ℕ)
    → row_name (before ++ flat names) (starts (length before) names) (lengths names) n ≡ name_at names n
unfolding row_name ◌>>=◌
row_after p [] n = simp (entry_none)
row_after p (x ∷ xs) zero =
    let h : length p + length x ≤ length (p ++ (x ++ flat xs)) = simp length-append (omega arith) in
    simp (entry_here, le-leb _ _ h, drop-append_seam, take-append_seam)
row_after p (x ∷ xs) (suc n) =
    let ih = row_after (p ++ x) xs n in
    simp (entry_next, length-append) (simp (append_assoc, length-append) at ih)

pub row_name_lem : (names : List (List ℕ)) (n : ℕ) → row_name (flat names) (starts 0 names) (lengths names) n ≡ name_at names n
row_name_lem names n = row_after [] names n

-- the first row of n from i on is the first place in that part of the names
pub row_place : (names : List (List ℕ)) (name : List ℕ) (n i : ℕ) → i + n ≤ length names
    → row_from (flat names) (starts 0 names) (lengths names) name i n ≡ place_from i name (take n (drop i names))
unfolding row_from place_from
row_place names name zero i h = refl
row_place names name (suc n) i h =
    let l : i < length names = omega arith in
    let k : (i + 1) + n ≤ length names = omega arith in
    rw (drop-cons names i [] l, row_name_lem names i, entry_in [] names i l, row_place names name n (i + 1) k, add-one i)
