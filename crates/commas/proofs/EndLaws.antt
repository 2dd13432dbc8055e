-- Where a name ends. Assumes nothing.
use mathlib.Core.Path.{◌≡◌, refl}
use mathlib.Core.Bool.{true, false}
use mathlib.Core.List.{List, [], ◌∷◌}
use Prim.Native.Nat.{ℕ, ◌+◌, ◌≤◌, ◌<◌}
use native.Mathlib.Omega.{arith}
use native.Mathlib.Numerals.{add-one}
use borrow.Author.Tests.{eq-eqb, ne_eqb}
use lib.Dec.{eqb}
use lib.ListN.{length, get_or, drop, drop_of_length-le}
use lib.Seq.{drop-cons}
use Rattle.answer.proofs.Laws.{split}
use Rattle.commas.specs.Cut.{name_length, empty}

-- m is where the name that stands at i ends: one byte of the name, the comma after it, the end of the list
module _ (s : List ℕ) (m i : ℕ) (inv : m ≡ i + name_length (drop i s)) where
  pub name_on : i < length s → (get_or s i 0 ≡ 44 → ⊥) → m ≡ i + 1 + name_length (drop (i + 1) s)
  unfolding name_length
  name_on h e = rw (inv, drop-cons s i 0, ne_eqb (get_or s i 0) 44 e, add-one i) (omega arith)

  pub name_off : i < length s → get_or s i 0 ≡ 44 → i ≡ m
  unfolding name_length
  name_off h e = rw (inv, drop-cons s i 0, eq-eqb (get_or s i 0) 44 e) (omega arith)

  pub name_over : length s ≤ i → i ≡ m
  unfolding name_length
  name_over h = rw (inv, drop_of_length-le s {i = i} h) (omega arith)

-- it ends inside
pub name_fits : (s : List ℕ) → name_length s ≤ length s
unfolding name_length
name_fits [] = omega arith
name_fits (c ∷ s) = split (eqb c 44) (λ t. rw t (omega arith)) (λ t. rw t (let h = name_fits s in omega arith))

-- something is left before the end, nothing from there on
pub empty_at : (s : List ℕ) (i : ℕ) → i < length s → empty (drop i s) ≡ false
empty_at s i h = rw (drop-cons s i 0)

pub empty_past : (s : List ℕ) (i : ℕ) → length s ≤ i → empty (drop i s) ≡ true
empty_past s i h = rw (drop_of_length-le s {i = i} h)

-- empty by length
pub empty_some : (s : List ℕ) → (length s ≡ 0 → ⊥) → empty s ≡ false
empty_some [] h = absurd (h refl)
empty_some (b ∷ s) h = refl

pub none_length : (s : List ℕ) → empty s ≡ true → length s ≡ 0
none_length [] h = refl
none_length (b ∷ s) h = absurd (let z : ◌≡◌ {A = ℕ} 0 1 = cc in omega arith)

pub some_length : (s : List ℕ) → empty s ≡ false → 0 < length s
some_length [] h = absurd (let z : ◌≡◌ {A = ℕ} 0 1 = cc in omega arith)
some_length (b ∷ s) h = omega arith
