-- The test `utf8` and the grammar agree. Assumes nothing.
use mathlib.Core.Bool.{Bool, true, false}
use mathlib.Core.List.{List, [], ◌∷◌, ◌++◌, map, Memᴰ}
use mathlib.Core.Path.{◌≡◌, refl, ◌∙◌, ap}
use Prim.Native.Nat.{ℕ, ◌≤◌, ◌+◌, ◌-◌}
use native.Mathlib.Omega.{arith}
use lib.Dec.{leb}
use borrow.Author.Tests.{leb-true, le-leb}
use Rattle.answer.specs.Answer.{pick}
use Rattle.text.specs.Utf8.{Range, within, rows, Wanted, bad, more, opened, next, octets, utf8}
use Rattle.text.specs.Grammar.{Matches, end, byte, Octets, empty, char}
use Rattle.text.proofs.TableLaws.{alike, count, span}
use Rattle.answer.proofs.Laws.{never, and_left, and_right}

abbrev bytes : Range → List ℕ
bytes r = count r.low (r.high + 1 - r.low)

-- what the test wants after each byte of a row's first range, and what the row itself wants then
abbrev opening : List Range → List Wanted
opening [] = []
opening (r ∷ row) = map (opened rows) (bytes r)

abbrev following : List Range → List Wanted
following [] = []
following (r ∷ row) = map (λ b. more row) (bytes r)

-- no byte is in the first range of two rows
pub rows_apart : map opening rows ≡ map following rows
unfolding rows
rows_apart = refl

opens_its_row : (r : Range) (row : List Range) (b : ℕ) → Memᴰ (r ∷ row) rows → r.low ≤ b → b ≤ r.high → opened rows b ≡ more row
opens_its_row r row b m l h =
    span (opened rows) (more row) r.low (r.high + 1 - r.low) (alike opening following rows rows_apart m) b l (omega arith)

-- one byte on in a row
steps : (r : Range) (row : List Range) (b : ℕ) → r.low ≤ b → b ≤ r.high → next (more (r ∷ row)) b ≡ more row
unfolding next
steps r row b l h = rw (le-leb r.low b l, le-leb b r.high h, next)

passes : {row : List Range} {c : List ℕ} (s : List ℕ) → Matches row c → octets (more row) (c ++ s) ≡ utf8 s
unfolding octets utf8
passes s end = refl
passes s (byte {r} {row} {b} {c} l h m) = ap (λ (w : Wanted). octets w (c ++ s)) (steps r row b l h) ∙ passes s m

begins : {row : List Range} {c : List ℕ} (s : List ℕ) → Memᴰ row rows → Matches row c → utf8 (c ++ s) ≡ utf8 s
unfolding octets next utf8
begins s m end = refl
begins s m (byte {r} {row} {b} {c} l h x) = ap (λ (w : Wanted). octets w (c ++ s)) (opens_its_row r row b m l h) ∙ passes s x

-- whatever the grammar yields passes the test
pub utf8_complete : {s : List ℕ} → Octets s → utf8 s ≡ true
unfolding octets utf8
utf8_complete empty = refl
utf8_complete (char {row} {c} {s} m x o) = begins s m x ∙ utf8_complete o

-- text in the middle of a character: the rest of the character, and then characters
data Rest : List Range → List ℕ → Type 0 where
  rest : {row : List Range} {c s : List ℕ} → Matches row c → Octets s → Rest row (c ++ s)

onto : {r : Range} {row : List Range} {b : ℕ} {s : List ℕ} → within r b ≡ true → Rest row s → Rest (r ∷ row) (b ∷ s)
onto {r} {row} {b} e (rest x o) =
    let l = leb-true r.low b (and_left (leb r.low b) (leb b r.high) e) in
    let h = leb-true b r.high (and_right (leb r.low b) (leb b r.high) e) in rest (byte l h x) o

whole : {row : List Range} {s : List ℕ} → Memᴰ row rows → Rest row s → Octets s
whole m (rest x o) = char m x o

none : {row : List Range} {s : List ℕ} → row ≡ [] → Rest row s → Octets s
none e (rest end o) = o
none e (rest (byte l h x) o) = never (cc)

-- a row that a byte opens is there, with the byte in its first range
data Found (b : ℕ) (row : List Range) (rs : List (List Range)) : Type 0 where
  by : (r : Range) → within r b ≡ true → Memᴰ (r ∷ row) rs → Found b row rs

later : {b : ℕ} {row : List Range} {rs : List (List Range)} (x : List Range) → Found b row rs → Found b row (x ∷ rs)
later x (by r e m) = by r e (Memᴰ.tail m)

found : (b : ℕ) (row : List Range) (rs : List (List Range)) → opened rs b ≡ more row → Found b row rs
found b row [] e = never (cc)
found b row ([] ∷ rs) e = later [] (found b row rs e)
found b row ((r ∷ x) ∷ rs) e = first (within r b) refl e (λ p. found b row rs p)
  where
    first : (t : Bool) → within r b ≡ t → pick t (more x) (opened rs b) ≡ more row → (opened rs b ≡ more row → Found b row rs) → Found b row ((r ∷ x) ∷ rs)
    first true q p k = by r q (Memᴰ.head {x = r ∷ x} (cc))
    first false q p k = later (r ∷ x) (k p)

not_bad : (s : List ℕ) → octets bad s ≡ true → ⊥
unfolding octets next
not_bad [] e = never (cc)
not_bad (b ∷ s) e = not_bad s e

module _ (b : ℕ) (s : List ℕ) (more_of : (row : List Range) → octets (more row) s ≡ true → Rest row s) where
  char_of : (w : Wanted) → opened rows b ≡ w → octets w s ≡ true → Octets (b ∷ s)
  char_of bad q e = absurd (not_bad s e)
  char_of (more row) q e = elim (found b row rows q) [ by r i m ↦ whole m (onto i (more_of row e)) ]

  byte_of : (r : Range) (row : List Range) (t : Bool) → within r b ≡ t → octets (pick t (more row) bad) s ≡ true → Rest (r ∷ row) (b ∷ s)
  byte_of r row true q e = onto q (more_of row e)
  byte_of r row false q e = absurd (not_bad s e)

reads : (row : List Range) (s : List ℕ) → octets (more row) s ≡ true → Rest row s
unfolding octets next
reads [] [] e = rest end empty
reads (r ∷ row) [] e = never (cc)
reads [] (b ∷ s) e = rest end (char_of b s (λ x. reads x s) (opened rows b) refl e)
reads (r ∷ row) (b ∷ s) e = byte_of b s (λ x. reads x s) r row (within r b) refl e

-- whatever passes the test is made by the grammar
pub utf8_sound : (s : List ℕ) → utf8 s ≡ true → Octets s
unfolding utf8
utf8_sound s e = none refl (reads [] s e)
