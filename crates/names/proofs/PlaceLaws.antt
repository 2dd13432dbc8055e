-- Tests over a list of names, what every says at every place, and the first place of a name.
-- Assumes nothing.
use mathlib.Core.Path.{◌≡◌, refl}
use mathlib.Core.Bool.{Bool, true, false, not, ◌&&◌}
use mathlib.Core.List.{List, [], ◌∷◌, ◌++◌}
use mathlib.Core.Option.{some}
use Prim.Native.Nat.{ℕ, zero, suc, ◌+◌, ◌-◌, ◌≤◌, ◌<◌}
use native.Mathlib.Nat.{le_of_suc-le-suc, add-zero}
use native.Mathlib.Omega.{arith}
use lib.ListN.{length, get_or}
use Rattle.answer.proofs.Laws.{split, and_left, and_right}
use Rattle.text.specs.Same.{same}
use Rattle.text.proofs.SameLaws.{same_self, same_equal}
use Rattle.commas.specs.Cut.{every}
use Rattle.names.specs.Lookup.{place_from, onward}

-- a test that holds of every name holds at each place
pub every_at : (f : List ℕ → Bool) (xs : List (List ℕ)) → every f xs ≡ true → (n : ℕ) → n < length xs → f (get_or xs n []) ≡ true
every_at f [] h n l = absurd (omega arith)
every_at f (x ∷ xs) h zero l = and_left (f x) (every f xs) h
every_at f (x ∷ xs) h (suc n) l = every_at f xs (and_right (f x) (every f xs) h) n (le_of_suc-le-suc l)

-- no name stands twice
abbrev pub distinct : List (List ℕ) → Bool
distinct [] = true
distinct (x ∷ xs) = every (λ y. not (same x y)) xs && distinct xs

pub every_front : (f : List ℕ → Bool) (xs ys : List (List ℕ)) → every f (xs ++ ys) ≡ true → every f xs ≡ true
every_front f [] ys h = refl
every_front f (x ∷ xs) ys h = rw (and_left (f x) (every f (xs ++ ys)) h) (every_front f xs ys (and_right (f x) (every f (xs ++ ys)) h))

pub distinct_front : (xs ys : List (List ℕ)) → distinct (xs ++ ys) ≡ true → distinct xs ≡ true
distinct_front [] ys h = refl
distinct_front (x ∷ xs) ys h =
    rw (every_front (λ y. not (same x y)) xs ys (and_left (every (λ y. not (same x y)) (xs ++ ys)) (distinct (xs ++ ys)) h))
    (distinct_front xs ys (and_right (every (λ y. not (same x y)) (xs ++ ys)) (distinct (xs ++ ys)) h))

pub distinct_back : (xs ys : List (List ℕ)) → distinct (xs ++ ys) ≡ true → distinct ys ≡ true
distinct_back [] ys h = h
distinct_back (x ∷ xs) ys h = distinct_back xs ys (and_right (every (λ y. not (same x y)) (xs ++ ys)) (distinct (xs ++ ys)) h)

not-true : (b : Bool) → not b ≡ true → b ≡ false
not-true true h = cc
not-true false h = refl

-- looking up what stands at a place gives the place back
pub place_back : (xs : List (List ℕ)) → distinct xs ≡ true → (i n : ℕ) → n < length xs → place_from i (get_or xs n []) xs ≡ some (i + n)
unfolding place_from
place_back [] h i n l = absurd (omega arith)
place_back (x ∷ xs) h i zero l = rw (same_self x, add-zero i)
place_back (x ∷ xs) h i (suc n) l =
    let others = and_left (every (λ y. not (same x y)) xs) (distinct xs) h in
    let other = not-true (same x (get_or xs n [])) (every_at (λ y. not (same x y)) xs others n (le_of_suc-le-suc l)) in
    let e : (i + 1) + n ≡ i + suc n = omega arith in
    rw (other, place_back xs (and_right (every (λ y. not (same x y)) xs) (distinct xs) h) (i + 1) n (le_of_suc-le-suc l), e)

-- what is found stands there
pub record Stands (name : List ℕ) (xs : List (List ℕ)) (i m : ℕ) : Type 0 where
  pub from : i ≤ m
  pub below : m - i < length xs
  pub spelt : get_or xs (m - i) [] ≡ name

some_inj : (a b : ℕ) → some a ≡ some b → a ≡ b
some_inj a b h = cc

pub place_found : (name : List ℕ) (xs : List (List ℕ)) (i m : ℕ) → place_from i name xs ≡ some m → Stands name xs i m
unfolding place_from
place_found name [] i m h = let z : ◌≡◌ {A = ℕ} 0 1 = cc in absurd (omega arith)
place_found name (x ∷ xs) i m h =
    split (same x name)
    (λ e. let z : i ≡ m = some_inj i m (rw e at h) in let s : m - i ≡ 0 = omega arith in
    record { from = omega arith; below = rw s (omega arith); spelt = rw s (same_equal x name e) })
    (λ e. let s = place_found name xs (i + 1) m (rw e at h) in
    let d : m - i ≡ suc (m - (i + 1)) = omega (arith, s.from) in
    record { from = omega (arith, s.from); below = rw d (omega (arith, s.below)); spelt = rw d s.spelt })

-- places counted from i
place_onward : (name : List ℕ) (xs : List (List ℕ)) (i j : ℕ) → place_from (i + j) name xs ≡ onward i (place_from j name xs)
unfolding place_from
place_onward name [] i j = refl
place_onward name (x ∷ xs) i j =
    let e : (i + j) + 1 ≡ i + (j + 1) = omega arith in
    split (same x name) (λ h. rw h) (λ h. rw (h, e, place_onward name xs i (j + 1)))

pub place_from_lem : (name : List ℕ) (xs : List (List ℕ)) (i : ℕ) → place_from i name xs ≡ onward i (place_from 0 name xs)
place_from_lem name xs i = rw (add-zero i) at (place_onward name xs i 0)
