-- Laws of `cut`: its first name, and what is joined is cut again. Assumes nothing.
use mathlib.Core.Path.{◌≡◌, refl}
use mathlib.Core.Bool.{Bool, true, false, not}
use mathlib.Core.List.{List, [], ◌∷◌, ◌++◌}
use Prim.Native.Nat.{ℕ, ◌+◌}
use native.Mathlib.Nat.{suc-add}
use native.Mathlib.Numerals.{add-one}
use borrow.Author.Tests.{not-true}
use lib.Dec.{eqb}
use lib.ListN.{take, drop}
use Rattle.answer.specs.Answer.{pick}
use Rattle.answer.proofs.Laws.{split, and_left, and_right}
use Rattle.text.specs.Same.{ascii}
use Rattle.text.proofs.SameLaws.{ascii_append}
use Rattle.commas.specs.Cut.{cut, join, empty, name_length, no_comma, listable, nameable, every}

-- how far the next name of s is: over the name, and over its comma
abbrev pub stride : List ℕ → ℕ
stride s = name_length s + pick (empty (drop (name_length s) s)) 0 1

pub cut_next : (s : List ℕ) → empty s ≡ false → cut s ≡ take (name_length s) s ∷ cut (drop (stride s) s)
unfolding cut name_length
cut_next [] h = cc
cut_next (c ∷ []) h = split (eqb c 44) (λ t. rw t) (λ t. rw t)
cut_next (c ∷ (b ∷ s)) h =
    split (eqb c 44) (λ t. rw t)
    (λ t. rw (t, add-one, suc-add, cut_next (b ∷ s) refl))

-- a name in front of a comma, a name alone
cut_comma : (n r : List ℕ) → no_comma n ≡ true → cut (n ++ 44 ∷ r) ≡ n ∷ cut r
unfolding cut
cut_comma [] r h = refl
cut_comma (b ∷ n) r h =
    rw (not-true (eqb b 44) (and_left (not (eqb b 44)) (no_comma n) h), cut_comma n r (and_right (not (eqb b 44)) (no_comma n) h))

cut_alone : (b : ℕ) (n : List ℕ) → no_comma (b ∷ n) ≡ true → cut (b ∷ n) ≡ (b ∷ n) ∷ []
unfolding cut
cut_alone b [] h = rw (not-true (eqb b 44) (and_left (not (eqb b 44)) true h))
cut_alone b (a ∷ n) h =
    rw (not-true (eqb b 44) (and_left (not (eqb b 44)) (no_comma (a ∷ n)) h), cut_alone a n (and_right (not (eqb b 44)) (no_comma (a ∷ n)) h))

-- what is joined is cut again: a written list of names reads back as those names
pub cut_join : (ns : List (List ℕ)) → every listable ns ≡ true → cut (join ns) ≡ ns
unfolding cut join
cut_join [] h = refl
cut_join ([] ∷ []) h = cc
cut_join ([] ∷ (m ∷ ns)) h = cc
cut_join ((b ∷ n) ∷ []) h = cut_alone b n (and_left (no_comma (b ∷ n)) true h)
cut_join ((b ∷ n) ∷ (m ∷ ns)) h =
    rw (
      cut_comma (b ∷ n) (join (m ∷ ns)) (and_left (no_comma (b ∷ n)) (every listable (m ∷ ns)) h),
      cut_join (m ∷ ns) (and_right (no_comma (b ∷ n)) (every listable (m ∷ ns)) h),
    )

-- joined ASCII is ASCII
pub join_ascii : (ns : List (List ℕ)) → every ascii ns ≡ true → ascii (join ns) ≡ true
unfolding join ascii
join_ascii [] h = refl
join_ascii (n ∷ []) h = and_left (ascii n) true h
join_ascii (n ∷ (m ∷ ns)) h =
    rw (
      ascii_append n (44 ∷ join (m ∷ ns)),
      and_left (ascii n) (every ascii (m ∷ ns)) h,
      join_ascii (m ∷ ns) (and_right (ascii n) (every ascii (m ∷ ns)) h),
    )

pub every_so : {A : Type 0} (f g : A → Bool) → ((x : A) → f x ≡ true → g x ≡ true) → (l : List A) → every f l ≡ true → every g l ≡ true
every_so f g k [] h = refl
every_so f g k (x ∷ l) h = rw (k x (and_left (f x) (every f l) h), every_so f g k l (and_right (f x) (every f l) h))

module _ (ns : List (List ℕ)) (h : every nameable ns ≡ true) where
  pub all_ascii : every ascii ns ≡ true
  all_ascii = every_so nameable ascii (λ x e. and_right (listable x) (ascii x) e) ns h

  -- a written list of names is cut into those names
  pub names_back : cut (join ns) ≡ ns
  names_back = cut_join ns (every_so nameable listable (λ x e. and_left (listable x) (ascii x) e) ns h)
