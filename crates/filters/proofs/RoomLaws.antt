-- How long the lists get, and that their numbers stay below their table's count: whatever is kept or added comes from
-- the lists that were judged. Certificate names each come from the key list, and each once, so there are no more of
-- them than key numbers, however many rows there are. Assumes nothing.
use mathlib.Core.Path.{◌≡◌, refl, ap, ◌∙◌}
use mathlib.Core.Bool.{Bool, true, false, not, ◌||◌, or-false}
use mathlib.Core.List.{List, [], ◌∷◌, ◌++◌}
use Prim.Native.Nat.{ℕ, ◌+◌, ◌≤◌}
use native.Mathlib.Omega.{arith}
use borrow.Author.Tests.{eqb-true, eq-eqb}
use lib.Dec.{eqb, ltb}
use lib.ListN.{length, length-append}
use Rattle.answer.proofs.Laws.{split, and_left, and_right}
use Rattle.judging.specs.Tables.{below}
use Rattle.choice.specs.Choice.{kept}
use Rattle.filters.specs.Picked.{member, without, of_kind, kind_of, added, certificates}
use Rattle.filters.proofs.FitLaws.{added_there, added_new}

-- what is kept is no longer, and below what all of it is below
module _ (f : ℕ → Bool) where
  pub kept_short : (ns : List ℕ) → length (kept f ns) ≤ length ns
  unfolding kept
  kept_short [] = omega arith
  kept_short (n ∷ ns) = let h = kept_short ns in split (f n) (λ e. rw e (omega arith)) (λ e. rw e (omega arith))

  pub kept_below : (c : ℕ) (ns : List ℕ) → below c ns ≡ true → below c (kept f ns) ≡ true
  unfolding below kept
  kept_below c [] h = refl
  kept_below c (n ∷ ns) h =
      let a = and_left (ltb n c) (below c ns) h in
      let b = kept_below c ns (and_right (ltb n c) (below c ns) h) in
      split (f n) (λ e. rw (e, a) b) (λ e. rw e b)

  kept_from : (n : ℕ) (ns : List ℕ) → member n (kept f ns) ≡ true → member n ns ≡ true
  unfolding member kept
  kept_from n [] h = h
  kept_from n (m ∷ ns) h =
      split (eqb m n)
      (λ e. rw e)
      (λ e. rw e (kept_from n ns (split (f m) (λ t. rw (t, e) at h) (λ t. rw t at h))))

pub member_append : (n : ℕ) (xs ys : List ℕ) → member n (xs ++ ys) ≡ (member n xs || member n ys)
unfolding member
member_append n [] ys = refl
member_append n (x ∷ xs) ys = split (eqb x n) (λ e. rw e) (λ e. rw e (member_append n xs ys))

member_more : (n m : ℕ) (xs : List ℕ) → member n (xs ++ m ∷ []) ≡ (member n xs || eqb m n)
unfolding member
member_more n m xs = member_append n xs (m ∷ []) ∙ ap (λ (b : Bool). member n xs || b) (or-false (eqb m n))

-- how many key numbers are not among xs
abbrev unseen : List ℕ → List ℕ → ℕ
unseen xs key = length (without xs key)

unseen_less : (n : ℕ) (xs key : List ℕ) → unseen (xs ++ n ∷ []) key ≤ unseen xs key
unfolding without kept
unseen_less n xs [] = omega arith
unseen_less n xs (m ∷ key) =
    let h = unseen_less n xs key in
    split (member m xs)
    (λ e. rw (member_more m n xs, e) h)
    (λ e. split (eqb n m) (λ t. rw (member_more m n xs, e, t) (omega arith)) (λ t. rw (member_more m n xs, e, t) (omega arith)))

unseen_fewer : (n : ℕ) (xs key : List ℕ) → member n key ≡ true → member n xs ≡ false → unseen (xs ++ n ∷ []) key + 1 ≤ unseen xs key
unfolding without kept member
unseen_fewer n xs [] h f = absurd (let z : ◌≡◌ {A = ℕ} 0 1 = cc in omega arith)
unseen_fewer n xs (m ∷ key) h f =
    split (eqb m n)
    (λ e.
    let a : m ≡ n = eqb-true m n e in
    let b = unseen_less n xs key in
    rw (member_more m n xs, a, f, eq-eqb n n refl) (omega arith))
    (λ e.
    let b = unseen_fewer n xs key (rw e at h) f in
    split (member m xs)
    (λ t. rw (member_more m n xs, t) b)
    (λ t. split (eqb n m) (λ u. rw (member_more m n xs, t, u) (omega arith)) (λ u. rw (member_more m n xs, t, u) (omega arith))))

below_more : (c : ℕ) (xs : List ℕ) (n : ℕ) → below c xs ≡ true → ltb n c ≡ true → below c (xs ++ n ∷ []) ≡ true
unfolding below
below_more c [] n h k = rw k
below_more c (x ∷ xs) n h k = rw (and_left (ltb x c) (below c xs) h) (below_more c xs n (and_right (ltb x c) (below c xs) h) k)

module _ (n m : ℕ) (ns : List ℕ) where
  head_member : member n (n ∷ ns) ≡ true
  unfolding member
  head_member = rw (eq-eqb n n refl)

  tail_member : member m ns ≡ true → member m (n ∷ ns) ≡ true
  unfolding member
  tail_member h = split (eqb n m) (λ e. rw e) (λ e. rw e h)

module _ (key : List ℕ) where
  added_room : (xs ns : List ℕ) → ((n : ℕ) → member n ns ≡ true → member n key ≡ true)
      → length (added xs ns) + unseen (added xs ns) key ≤ length xs + unseen xs key
  unfolding added
  added_room xs [] from = omega arith
  added_room xs (n ∷ ns) from =
      let later : (m : ℕ) → member m ns ≡ true → member m key ≡ true = λ m h. from m (tail_member n m ns h) in
      split (member n xs)
      (λ e. rw (added_there n xs ns e) (added_room xs ns later))
      (λ e.
      let a = added_room (xs ++ n ∷ []) ns later in
      let b = unseen_fewer n xs key (from n (head_member n n ns)) e in
      let l = length-append xs (n ∷ []) in
      rw (added_new n xs ns e) (omega arith))

  added_below : (c : ℕ) (xs ns : List ℕ) → below c xs ≡ true → below c ns ≡ true → below c (added xs ns) ≡ true
  unfolding added below
  added_below c xs [] h k = h
  added_below c xs (n ∷ ns) h k =
      let a = and_left (ltb n c) (below c ns) k in
      let b = and_right (ltb n c) (below c ns) k in
      split (member n xs)
      (λ e. rw (added_there n xs ns e) (added_below c xs ns h b))
      (λ e. rw (added_new n xs ns e) (added_below c (xs ++ n ∷ []) ns (below_more c xs n h a) b))

  module _ (ids : List ℕ) where
    certificates_room : (xs ks is : List ℕ)
        → length (certificates xs key ids ks is) + unseen (certificates xs key ids ks is) key ≤ length xs + unseen xs key
    unfolding certificates of_kind
    certificates_room xs [] is = omega arith
    certificates_room xs (k ∷ ks) [] = omega arith
    certificates_room xs (k ∷ ks) (i ∷ is) =
        split (member i ids)
        (λ e.
        let a = added_room xs (of_kind k key) (λ n h. kept_from (λ m. eqb (kind_of m) k) n key h) in
        let b = certificates_room (added xs (of_kind k key)) ks is in
        rw e (omega arith))
        (λ e. rw e (certificates_room xs ks is))

    certificates_below : (c : ℕ) (xs ks is : List ℕ) → below c xs ≡ true → below c key ≡ true → below c (certificates xs key ids ks is) ≡ true
    unfolding certificates of_kind
    certificates_below c xs [] is h k = h
    certificates_below c xs (l ∷ ks) [] h k = h
    certificates_below c xs (l ∷ ks) (i ∷ is) h k =
        split (member i ids)
        (λ e. rw e (certificates_below c (added xs (of_kind l key)) ks is (added_below c xs (of_kind l key) h (kept_below (λ m. eqb (kind_of m) l) c key k)) k))
        (λ e. rw e (certificates_below c xs ks is h k))

    -- as many as key numbers, at most
    pub certificates_short : (ks is : List ℕ) → length (certificates [] key ids ks is) ≤ length key
    unfolding without
    certificates_short ks is = let a = certificates_room [] ks is in let b = kept_short (λ n. not (member n [])) key in omega arith

    pub certificates_numbers : (c : ℕ) (ks is : List ℕ) → below c key ≡ true → below c (certificates [] key ids ks is) ≡ true
    unfolding below
    certificates_numbers c ks is h = certificates_below c [] ks is refl h
