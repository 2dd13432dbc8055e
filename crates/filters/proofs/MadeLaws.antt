-- Laws of making the lists: for each loop what a turn and its end tell, in the words of the code's tests and calls.
-- Assumes nothing.
use mathlib.Core.Path.{◌≡◌, refl, sym, ap, ◌∙◌}
use mathlib.Core.Bool.{Bool, true, false, ◌||◌}
use mathlib.Core.List.{List, [], ◌∷◌}
use mathlib.Core.Logic.{◌⊎◌, inl, inr}
use Prim.Native.Nat.{ℕ, ◌+◌, ◌≤◌, ◌<◌}
use borrow.Author.Tests.{eq-eqb, ne_eqb}
use lib.Dec.{eqb}
use lib.ListN.{length, get_or, drop, drop_of_length-le}
use Rattle.std.specs.List.{list_any}
use Rattle.filters.specs.Items.{Items}
use Rattle.choice.specs.Choice.{kept}
use Rattle.filters.specs.Made.{row_list, shown, pushed, joined, joined_once, certified}
use Rattle.filters.specs.Picked.{member, of_kind, kind_of}
use Rattle.answer.specs.Answer.{pick}
use Rattle.judging.proofs.JudgeLaws.{next}

-- `contains`, in the words of the definitions
pub list_any-member : (n : ℕ) (ns : List ℕ) → list_any (λ m. eqb m n) ns ≡ member n ns
unfolding member
list_any-member n [] = refl
list_any-member n (m ∷ ns) = ap (λ b. eqb m n || b) (list_any-member n ns)

known : (n : ℕ) (ns : List ℕ) {b t : Bool} → b ≡ list_any (λ m. eqb m n) ns → b ≡ t → member n ns ≡ t
known n ns e t = sym (list_any-member n ns) ∙ sym e ∙ t

-- a list starts empty
module _ (l : Items) (e : l.items ≡ []) where
  pub start : (ns : List ℕ) → joined (row_list []) ns ≡ joined l ns
  start ns = ap (λ xs. joined (row_list xs) ns) (sym e)

  pub start_certified : (key ids ks is : List ℕ) → certified (row_list []) key ids ks is ≡ certified l key ids ks is
  start_certified key ids ks is = ap (λ xs. certified (row_list xs) key ids ks is) (sym e)

-- a loop that keeps some of its numbers, whatever the test
module _ (f : ℕ → Bool) (ns : List ℕ) (i : ℕ) (whole l : Items) (left : whole ≡ joined l (kept f (drop i ns))) where
  pub keep_end : length ns ≤ i → l ≡ whole
  unfolding joined kept
  keep_end h = sym (rw (drop_of_length-le ns h) at left)

  module _ (h : i < length ns) where
    pub keep_in : f (get_or ns i 0) ≡ true → whole ≡ joined (pushed l (get_or ns i 0)) (kept f (drop (i + 1) ns))
    unfolding joined kept
    keep_in e = left ∙ rw (next ns i h, e)

    pub keep_out : f (get_or ns i 0) ≡ false → whole ≡ joined l (kept f (drop (i + 1) ns))
    unfolding kept
    keep_out e = left ∙ rw (next ns i h, e)

module _ (l : Items) (n : ℕ) (ns : List ℕ) where
  pub once_there : member n (shown l) ≡ true → joined_once l (n ∷ ns) ≡ joined_once l ns
  unfolding joined_once
  once_there e = ap (λ (b : Bool). joined_once (pick b l (pushed l n)) ns) e

  pub once_new : member n (shown l) ≡ false → joined_once l (n ∷ ns) ≡ joined_once (pushed l n) ns
  unfolding joined_once
  once_new e = ap (λ (b : Bool). joined_once (pick b l (pushed l n)) ns) e

-- a loop that adds the names of a kind, each once
module _ (k : ℕ) (ns : List ℕ) (i : ℕ) (whole l : Items) (left : whole ≡ joined_once l (of_kind k (drop i ns))) where
  pub once_end : length ns ≤ i → l ≡ whole
  unfolding joined_once of_kind kept
  once_end h = sym (rw (drop_of_length-le ns h) at left)

  module _ (h : i < length ns) where
    pub once_other : (kind_of (get_or ns i 0) ≡ k → ⊥) → whole ≡ joined_once l (of_kind k (drop (i + 1) ns))
    unfolding of_kind kept
    once_other e = left ∙ rw (next ns i h, ne_eqb (kind_of (get_or ns i 0)) k e)

    module _ (e : kind_of (get_or ns i 0) ≡ k) (b : Bool) (held : b ≡ list_any (λ m. eqb m (get_or ns i 0)) (shown l)) where
      pub once_held : b ≡ true → whole ≡ joined_once l (of_kind k (drop (i + 1) ns))
      unfolding of_kind kept
      once_held t = left ∙ rw (next ns i h, eq-eqb (kind_of (get_or ns i 0)) k e) (once_there l (get_or ns i 0) _ (known _ _ held t))

      pub once_added : b ≡ false → whole ≡ joined_once (pushed l (get_or ns i 0)) (of_kind k (drop (i + 1) ns))
      unfolding of_kind kept
      once_added t = left ∙ rw (next ns i h, eq-eqb (kind_of (get_or ns i 0)) k e) (once_new l (get_or ns i 0) _ (known _ _ held t))

-- a loop over the certificate rows, of which these columns are left
module _ (key ids : List ℕ) (whole l : Items) where
  pub certified_end : (ks is : List ℕ) → whole ≡ certified l key ids ks is → (ks ≡ []) ⊎ (is ≡ []) → l ≡ whole
  unfolding certified
  certified_end [] is left e = sym left
  certified_end (k ∷ ks) [] left e = sym left
  certified_end (k ∷ ks) (i ∷ is) left (inl e) = cc
  certified_end (k ∷ ks) (i ∷ is) left (inr e) = cc

  module _ (ks is : List ℕ) (left : whole ≡ certified l key ids ks is) (k i : ℕ) (ks' is' : List ℕ) (more : ks ≡ k ∷ ks') (more' : is ≡ i ∷ is')
      (b : Bool) (held : b ≡ list_any (λ m. eqb m i) ids) where
    pub certified_in : b ≡ true → whole ≡ certified (joined_once l (of_kind k key)) key ids ks' is'
    unfolding certified
    certified_in t = left ∙ rw (more, more', known _ _ held t)

    pub certified_out : b ≡ false → whole ≡ certified l key ids ks' is'
    unfolding certified
    certified_out t = left ∙ rw (more, more', known _ _ held t)
