-- The place of the first that passes a test, and what stands there. Assumes nothing.
use mathlib.Core.Path.{◌≡◌, refl, sym, ap, ◌∙◌}
use mathlib.Core.Bool.{Bool}
use mathlib.Core.List.{List, [], ◌∷◌}
use mathlib.Core.Option.{some, none}
use Prim.Native.Nat.{ℕ, suc, ◌+◌, ◌≤◌, ◌<◌}
use native.Mathlib.Nat.{le_refl}
use native.Mathlib.Numerals.{add-one}
use native.Mathlib.Omega.{arith}
use lib.Dec.{ltb, leb-suc-suc}
use lib.ListN.{length, get_or, take}
use borrow.Author.Tests.{lt-ltb, le-ltb, ltb-true, ltb-false}
use Rattle.std.specs.Prelude.{Option as Maybe, Some, None}
use Rattle.std.specs.List.{position, position_or_len}
use Rattle.std.specs.Option.{option_copied, unwrap_or}
use Rattle.std.specs.Slice.{IsItemAt}
use Rattle.std.proofs.Common.{Bor}
use Rattle.std.proofs.lemmas.List.Recursion.{is_position_or_len}
use Rattle.std.proofs.lemmas.Option.{cond_some}
use Rattle.answer.proofs.Laws.{split, never}
use Rattle.choice.specs.Choice.{first}
use Rattle.choice.specs.Rows.{offered, place_of, row_at, chose}

pub row_in : (own : List ℕ) (k : ℕ) → k < length own → some (get_or own k 0) ≡ row_at own k
unfolding row_at
row_in own k h = rw (lt-ltb k (length own) h)

pub row_out : (own : List ℕ) (k : ℕ) → length own ≤ k → none ≡ row_at own k
unfolding row_at
row_out own k h = rw (le-ltb k (length own) h)

-- what `get` lends there, copied
pub row_lent : (own : List ℕ) (k : ℕ) (r : Maybe (Bor ℕ)) → IsItemAt own k r → (o : Maybe ℕ) → o ≡ option_copied r → chose o ≡ row_at own k
row_lent own k None g o e = rw e (row_out own k g.3)
row_lent own k (Some x) g o e = rw e (ap some (g.4 (le_refl k) 0) ∙ row_in own k g.3.0)

row_next : (r : ℕ) (own : List ℕ) (k : ℕ) → row_at (r ∷ own) (suc k) ≡ row_at own k
unfolding row_at
row_next r own k = rw (leb-suc-suc (suc k) (length own))

module _ {X Y : Type 0} (test : X → Y → Bool) (y : Y) where
  pub place_within : (xs : List X) → place_of test xs y ≤ length xs
  unfolding place_of
  place_within [] = omega arith
  place_within (x ∷ xs) = split (test x y) (λ t. rw t (omega arith)) (λ t. rw t (let h = place_within xs in omega arith))

  place_counts : (xs : List X) → place_of test xs y ≡ position_or_len (λ x. test x y) xs
  unfolding place_of
  place_counts xs = is_position_or_len (λ zs. place_of test zs y) (λ x. test x y) refl (λ x zs. split (test x y) (λ t. rw t) (λ t. rw t (omega arith))) xs

  -- what `position` answers
  module _ (xs : List X) (r : Maybe ℕ) (told : r ≡ position (λ x. test x y) xs) where
    pub place_some : (k : ℕ) → r ≡ Some k → (k ≡ place_of test xs y) × (k < length xs)
    place_some k e =
        let c = cond_some (ltb (position_or_len (λ x. test x y) xs) (length xs)) (position_or_len (λ x. test x y) xs) k (sym told ∙ e) in
        (sym c.1 ∙ sym (place_counts xs), rw c.1 at (ltb-true _ _ c.0))

    pub place_past : r ≡ None → place_of test xs y ≡ length xs
    place_past e =
        split (ltb (place_of test xs y) (length xs))
        (λ t. let f = sym e ∙ told in never (let g = rw (← place_counts xs, t) at f in cc))
        (λ t. let g = ltb-false _ _ t in let h = place_within xs in omega arith)

    pub place_or : (b : ℕ) → b ≡ length xs → unwrap_or r b ≡ place_of test xs y
    place_or b h = go r refl
      where
        go : (o : Maybe ℕ) → r ≡ o → unwrap_or o b ≡ place_of test xs y
        go None e = h ∙ sym (place_past e)
        go (Some k) e = (place_some k e).0

-- the first own row that passes stands at that place
pub first_at : {Y : Type 0} (test : ℕ → Y → Bool) (own : List ℕ) (y : Y) → first test own y ≡ row_at own (place_of test own y)
unfolding first place_of
first_at test [] y = row_out [] 0 (omega arith)
first_at test (r ∷ own) y =
    split (test r y) (λ t. rw t (row_in (r ∷ own) 0 (omega arith)))
    (λ t. rw (t, add-one, row_next) (first_at test own y))

-- A name in front of a list: the first own row that is offered then stands before the first that spells the name, or
-- is that.
module _ (spells : ℕ → List ℕ → Bool) (name : List ℕ) (names : List (List ℕ)) where
  pub narrow : (own : List ℕ) → place_of (offered spells) own (name ∷ names) ≡ place_of (offered spells) (take (place_of spells own name) own) names
  unfolding place_of offered
  narrow [] = refl
  narrow (r ∷ own) =
      split (spells r name) (λ t. rw t)
      (λ t. rw (t, add-one (place_of spells own name)) (split (offered spells r names) (λ u. rw u) (λ u. rw u (ap (λ (n : ℕ). n + 1) (narrow own)))))

pub place_none : (spells : ℕ → List ℕ → Bool) (own : List ℕ) → place_of (offered spells) own [] ≡ length own
unfolding place_of offered
place_none spells [] = refl
place_none spells (r ∷ own) = rw (place_none spells own) (add-one (length own))
