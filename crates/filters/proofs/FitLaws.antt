-- Every list that is made fits: what is pushed one by one is the list that the definition has. Certificate names each
-- come from the key list and each once, so there are no more of them than key numbers. Assumes nothing.
use mathlib.Core.Path.{◌≡◌, refl, sym, ap, ◌∙◌}
use mathlib.Core.Bool.{Bool, true, false}
use mathlib.Core.List.{List, [], ◌∷◌, ◌++◌, append-nil}
use Prim.Native.Nat.{ℕ, ◌+◌, ◌≤◌, ◌<◌}
use native.Mathlib.Omega.{arith}
use borrow.Author.Tests.{lt-ltb}
use lib.ListN.{length, length-append}
use lib.Seq.{append_snoc}
use Rattle.answer.specs.Answer.{pick}
use Rattle.answer.proofs.Laws.{split}
use Rattle.filters.specs.Picked.{member, of_kind, added, certificates}
use Rattle.filters.specs.Made.{row_list, most_own, shown, pushed, joined, joined_once, certified}
use Rattle.filters.proofs.MadeLaws.{once_there, once_new}

-- what stands in a list that was handed over
pub shown_list : (xs : List ℕ) → shown (row_list xs) ≡ xs
shown_list xs = refl

length_more : (xs : List ℕ) (n : ℕ) → length (xs ++ n ∷ []) ≡ length xs + 1
length_more xs n = length-append xs (n ∷ [])

push_list : (xs : List ℕ) (n : ℕ) → length xs < most_own → pushed (row_list xs) n ≡ row_list (xs ++ n ∷ [])
unfolding pushed
push_list xs n h =
    rw (lt-ltb (length xs) most_own h)

pub joined_list : (xs ns : List ℕ) → length xs + length ns ≤ most_own → joined (row_list xs) ns ≡ row_list (xs ++ ns)
unfolding joined
joined_list xs [] h = ap row_list (sym (append-nil xs))
joined_list xs (n ∷ ns) h =
    let l : length xs < most_own = omega arith in
    let m : length (xs ++ n ∷ []) + length ns ≤ most_own = rw (length_more xs n) (omega arith) in
    rw (push_list xs n l) (joined_list (xs ++ n ∷ []) ns m ∙ ap row_list (append_snoc xs n ns))

-- adding only lengthens
module _ (n : ℕ) (xs ns : List ℕ) where
  pub added_there : member n xs ≡ true → added xs (n ∷ ns) ≡ added xs ns
  unfolding added
  added_there e = ap (λ (b : Bool). added (pick b xs (xs ++ n ∷ [])) ns) e

  pub added_new : member n xs ≡ false → added xs (n ∷ ns) ≡ added (xs ++ n ∷ []) ns
  unfolding added
  added_new e = ap (λ (b : Bool). added (pick b xs (xs ++ n ∷ [])) ns) e

added_long : (xs ns : List ℕ) → length xs ≤ length (added xs ns)
unfolding added
added_long xs [] = omega arith
added_long xs (n ∷ ns) =
    split (member n xs)
    (λ e. rw (added_there n xs ns e) (added_long xs ns))
    (λ e. rw (added_new n xs ns e) (let h = added_long (xs ++ n ∷ []) ns in let l = length_more xs n in omega arith))

once_list : (xs ns : List ℕ) → length (added xs ns) ≤ most_own → joined_once (row_list xs) ns ≡ row_list (added xs ns)
unfolding joined_once added
once_list xs [] h = refl
once_list xs (n ∷ ns) h =
    split (member n xs)
    (λ e.
    once_there (row_list xs) n ns (rw (shown_list xs) e)
    ∙ rw (added_there n xs ns e) (once_list xs ns (rw (added_there n xs ns e) at h)))
    (λ e.
    let k : length (added (xs ++ n ∷ []) ns) ≤ most_own = rw (added_new n xs ns e) at h in
    let l : length xs < most_own = let a = added_long (xs ++ n ∷ []) ns in let b = length_more xs n in omega arith in
    once_new (row_list xs) n ns (rw (shown_list xs) e)
    ∙ rw (added_new n xs ns e, push_list xs n l) (once_list (xs ++ n ∷ []) ns k))

module _ (key ids : List ℕ) where
  certificates_long : (xs ks is : List ℕ) → length xs ≤ length (certificates xs key ids ks is)
  unfolding certificates
  certificates_long xs [] is = omega arith
  certificates_long xs (k ∷ ks) [] = omega arith
  certificates_long xs (k ∷ ks) (i ∷ is) =
      split (member i ids)
      (λ e. rw e (let h = certificates_long (added xs (of_kind k key)) ks is in let l = added_long xs (of_kind k key) in omega arith))
      (λ e. rw e (certificates_long xs ks is))

  pub certified_list : (xs ks is : List ℕ) → length (certificates xs key ids ks is) ≤ most_own
      → certified (row_list xs) key ids ks is ≡ row_list (certificates xs key ids ks is)
  unfolding certified certificates
  certified_list xs [] is h = refl
  certified_list xs (k ∷ ks) [] h = refl
  certified_list xs (k ∷ ks) (i ∷ is) h =
      split (member i ids)
      (λ e.
      let m : length (certificates (added xs (of_kind k key)) key ids ks is) ≤ most_own = rw e at h in
      let l : length (added xs (of_kind k key)) ≤ most_own = let a = certificates_long (added xs (of_kind k key)) ks is in omega arith in
      rw (e, once_list xs (of_kind k key) l) (certified_list (added xs (of_kind k key)) ks is m))
      (λ e. let m : length (certificates xs key ids ks is) ≤ most_own = rw e at h in rw e (certified_list xs ks is m))
