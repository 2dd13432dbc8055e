-- Laws of bytes compared, of the first of them, and of US-ASCII. Assumes nothing.
use mathlib.Core.Bool.{Bool, true, false, ◌&&◌, and_assoc, and-true, and-false}
use mathlib.Core.Logic.{◌⊎◌, inl, inr}
use mathlib.Core.List.{List, [], ◌∷◌, ◌++◌}
use mathlib.Core.Path.{◌≡◌, refl, sym, ◌∙◌, ap}
use Prim.Native.Nat.{ℕ, suc, max, ◌<◌}
use native.Mathlib.Omega.{arith}
use borrow.Author.Tests.{ltb-true, lt-ltb, eqb-true, eq-eqb}
use lib.Dec.{eqb, ltb}
use Rattle.std.specs.Prelude.{nat_eq, length}
use Rattle.std.specs.List.{fold}
use Rattle.std.specs.Cmp.Lexicographic.{pointwise}
use Rattle.answer.proofs.Laws.{never, and_left, and_right}
use Rattle.text.specs.Same.{same, highest, ascii}

-- two tests are one if each holds where the other does
tests : (a b : Bool) → (a ≡ true → b ≡ true) → (b ≡ true → a ≡ true) → a ≡ b
tests true b f g = sym (f refl)
tests false true f g = g refl
tests false false f g = refl

-- `==` of two slices
pub same_pointwise : (s t : List ℕ) → same s t ≡ pointwise nat_eq s t
unfolding same
same_pointwise [] [] = refl
same_pointwise [] (b ∷ t) = refl
same_pointwise (a ∷ s) [] = refl
same_pointwise (a ∷ s) (b ∷ t) = rw (same_pointwise s t)

-- bytes compared in pairs: what is compared so far, and what is left, give the answer
module _ (s t : List ℕ) (ok : Bool) (xs ys : List ℕ) (e : length xs ≡ length ys) (inv : same s t ≡ (ok && same xs ys)) where
  pub same_turn : (r : Bool) (x y : ℕ) (us vs : List ℕ) → xs ≡ x ∷ us → ys ≡ y ∷ vs → r ≡ (ok && eqb x y) → (length us ≡ length vs) × (same s t ≡ (r && same us vs))
  unfolding same
  same_turn r x y us vs p q f =
      let l : length us ≡ length vs = omega (arith, ap length p, ap length q) in
      (l, rw (inv, p, q, f) (sym (and_assoc ok (eqb x y) (same us vs))))

  pub same_end : (xs ≡ []) ⊎ (ys ≡ []) → ok ≡ same s t
  unfolding same
  same_end h =
      let p : length xs ≡ 0 = elim h [ inl n ↦ ap length n | inr n ↦ e ∙ ap length n ] in
      let q : length ys ≡ 0 = omega arith in
      rw (inv, none xs p, none ys q) (sym (and-true ok))
    where
      none : (l : List ℕ) → length l ≡ 0 → l ≡ []
      none [] z = refl
      none (b ∷ l) z = cc

-- strings of two lengths are not the same
pub same_lengths : (s t : List ℕ) → (length s ≡ length t → ⊥) → same s t ≡ false
unfolding same
same_lengths [] [] n = absurd (n refl)
same_lengths [] (b ∷ t) n = refl
same_lengths (a ∷ s) [] n = refl
same_lengths (a ∷ s) (b ∷ t) n = rw (same_lengths s t (λ e. n (ap suc e))) (and-false (eqb a b))

-- a string is the same as itself
pub same_self : (s : List ℕ) → same s s ≡ true
unfolding same
same_self [] = refl
same_self (b ∷ s) = rw (eq-eqb b b refl, same_self s)

-- only equal strings are the same
pub same_equal : (s t : List ℕ) → same s t ≡ true → s ≡ t
unfolding same
same_equal [] [] e = refl
same_equal [] (b ∷ t) e = cc
same_equal (a ∷ s) [] e = cc
same_equal (a ∷ s) (b ∷ t) e = cc (eqb-true a b (and_left (eqb a b) (same s t) e), same_equal s t (and_right (eqb a b) (same s t) e))

-- equal strings are the same
pub equal_same : (s t : List ℕ) → s ≡ t → same s t ≡ true
equal_same s t e = rw (← e) (same_self s)

-- strings that are not the same differ
pub same_differ : (s t : List ℕ) → same s t ≡ false → s ≡ t → ⊥
same_differ s t e q = never (cc (equal_same s t q))

-- the highest byte, found by a fold
pub highest_fold : (m : ℕ) (s : List ℕ) → highest m s ≡ fold max m s
unfolding highest
highest_fold m [] = refl
highest_fold m (b ∷ s) = highest_fold (max m b) s

under : (m b : ℕ) → ltb (max m b) 128 ≡ (ltb m 128 && ltb b 128)
under m b =
    tests (ltb (max m b) 128) (ltb m 128 && ltb b 128)
    (λ e. let h : max m b < 128 = ltb-true (max m b) 128 e in rw (lt-ltb m 128 (omega arith), lt-ltb b 128 (omega arith)))
    (λ e.
    let h : m < 128 = ltb-true m 128 (and_left (ltb m 128) (ltb b 128) e) in
    let k : b < 128 = ltb-true b 128 (and_right (ltb m 128) (ltb b 128) e) in lt-ltb (max m b) 128 (omega arith))

-- the highest byte, at least m, is under 128 just if m is and the text is US-ASCII
pub highest_ascii : (m : ℕ) (s : List ℕ) → ltb (highest m s) 128 ≡ (ltb m 128 && ascii s)
unfolding highest ascii
highest_ascii m [] = sym (and-true (ltb m 128))
highest_ascii m (b ∷ s) = rw (highest_ascii (max m b) s, under m b) (and_assoc (ltb m 128) (ltb b 128) (ascii s))

-- the highest byte of US-ASCII is under 128
pub ascii_low : (s : List ℕ) → ascii s ≡ true → highest 0 s < 128
ascii_low s e = ltb-true (highest 0 s) 128 (highest_ascii 0 s ∙ e)

-- text whose highest byte is under 128 is US-ASCII
pub low_ascii : (s : List ℕ) → highest 0 s < 128 → ascii s ≡ true
low_ascii s h = sym (highest_ascii 0 s) ∙ lt-ltb (highest 0 s) 128 h

-- joined text is US-ASCII just if both parts are
pub ascii_append : (s t : List ℕ) → ascii (s ++ t) ≡ (ascii s && ascii t)
unfolding ascii
ascii_append [] t = refl
ascii_append (b ∷ s) t = rw (ascii_append s t) (sym (and_assoc (ltb b 128) (ascii s) (ascii t)))
