-- The first of a list that passes a test, over any test. Assumes nothing.
use mathlib.Core.Path.{◌≡◌, refl}
use mathlib.Core.Bool.{Bool, true, not}
use mathlib.Core.List.{List, [], ◌∷◌, map}
use mathlib.Core.Option
use mathlib.Core.Option.{some, none}
use Rattle.answer.proofs.Laws.{split, and_left, and_right}
use Rattle.commas.specs.Cut.{every}
use Rattle.choice.specs.Choice.{first, kept}

module _ {X Y : Type 0} (test : X → Y → Bool) (y : Y) where
  pub first_none : (xs : List X) → first test xs y ≡ none → every (λ z. not (test z y)) xs ≡ true
  unfolding first
  first_none [] e = refl
  first_none (z ∷ xs) e = split (test z y) (λ t. let q = rw t at e in cc) (λ t. rw t (first_none xs (rw t at e)))

  pub none_first : (xs : List X) → every (λ z. not (test z y)) xs ≡ true → first test xs y ≡ none
  unfolding first
  none_first [] h = refl
  none_first (z ∷ xs) h = split (test z y) (λ t. let q = rw t at h in cc) (λ t. rw t (none_first xs (rw t at h)))

  -- what holds of all of them holds of the first
  pub first_among : (f : X → Bool) (xs : List X) (x : X) → every f xs ≡ true → first test xs y ≡ some x → f x ≡ true
  unfolding first
  first_among f [] x h e = cc
  first_among f (z ∷ xs) x h e =
      split (test z y)
      (λ t. let q : z ≡ x = let p = rw t at e in cc in rw q at (and_left (f z) (every f xs) h))
      (λ t. first_among f xs x (and_right (f z) (every f xs) h) (rw t at e))

  -- dropping what fails anyhow changes nothing
  pub first_kept : (f : X → Bool) → ((x : X) → test x y ≡ true → f x ≡ true) → (xs : List X) → first test (kept f xs) y ≡ first test xs y
  unfolding first kept
  first_kept f h [] = refl
  first_kept f h (z ∷ xs) =
      split (test z y) (λ t. rw (h z t, t))
      (λ t. split (f z) (λ u. rw (u, t) (first_kept f h xs)) (λ u. rw (u, t) (first_kept f h xs)))

-- two tests that agree, over one list and its image, where an element is as it should be
module _ {X Y Z W : Type 0} (g : X → Z) (t : X → Y → Bool) (u : Z → W → Bool) (ok : X → Bool) (y : Y) (w : W)
    (agree : (x : X) → ok x ≡ true → t x y ≡ u (g x) w) where
  pub first_map : (xs : List X) → every ok xs ≡ true → Option.map g (first t xs y) ≡ first u (map g xs) w
  unfolding first
  first_map [] h = refl
  first_map (x ∷ xs) h =
      let a = agree x (and_left (ok x) (every ok xs) h) in
      let ih = first_map xs (and_right (ok x) (every ok xs) h) in
      split (t x y) (λ e. rw (e, ← a, e)) (λ e. rw (e, ← a, e) ih)

-- two tests that agree on every element
pub first_same : {X Y W : Type 0} (t : X → Y → Bool) (u : X → W → Bool) (y : Y) (w : W) (ok : X → Bool)
    → ((x : X) → ok x ≡ true → t x y ≡ u x w) → (xs : List X) → every ok xs ≡ true → first t xs y ≡ first u xs w
unfolding first
first_same t u y w ok agree [] h = refl
first_same t u y w ok agree (x ∷ xs) h =
    rw (agree x (and_left (ok x) (every ok xs) h), first_same t u y w ok agree xs (and_right (ok x) (every ok xs) h))
