-- The names of lists of numbers that were judged. Assumes nothing.
use mathlib.Core.Path.{◌≡◌, refl, sym, ap, ◌∙◌}
use mathlib.Core.Bool.{true}
use mathlib.Core.List.{List, [], ◌∷◌}
use mathlib.Core.Option.{some}
use Prim.Native.Nat.{ℕ, ◌+◌, ◌<◌}
use lib.Dec.{ltb, eqb}
use lib.ListN.{length, get_or}
use borrow.Author.Tests.{ltb-true, eqb-true, eqb-false}
use Rattle.answer.proofs.Laws.{split, and_left, and_right, never}
use Rattle.text.specs.Same.{same}
use Rattle.text.proofs.SameLaws.{same_self, same_equal}
use Rattle.names.specs.Tables.{names_of, first_row}
use Rattle.names.specs.Lookup.{number_of}
use Rattle.names.specs.declared.Kind.{Kind}
use Rattle.names.proofs.TableLaws.{row_of, number_back}
use Rattle.choice.specs.Choice.{listed}
use Rattle.choice.specs.Rows.{row_spelled, spelled_rows}
use Rattle.judging.specs.Tables.{below, good_list}
use Rattle.filters.specs.Picked.{member}
use Rattle.preferred.specs.Own.{rows}
use Rattle.judging.proofs.ValidLaws.{good_below}
use Rattle.negotiation.specs.Read.{number}

-- a name of such a list has a number
pub record Known (k : Kind) (name : List ℕ) : Type 0 where
  pub place : ℕ
  pub inside : place < length (names_of k)
  pub spelt : get_or (names_of k) place [] ≡ name
  pub found : number_of k name ≡ some place

known_below : (k : Kind) (ns : List ℕ) (name : List ℕ) → below (length (names_of k)) ns ≡ true → listed name (spelled_rows (rows k ns)) ≡ true
    → Known k name
unfolding listed row_spelled below
known_below k [] name g h = never (cc)
known_below k (n ∷ ns) name g h =
    let count = length (names_of k) in
    let l = ltb-true n count (and_left (ltb n count) (below count ns) g) in
    split (same (get_or (names_of k) n []) name)
    (λ e. let s = same_equal (get_or (names_of k) n []) name e in
    record { place = n; inside = l; spelt = s; found = rw (← s) (number_back k n l) })
    (λ e. known_below k ns name (and_right (ltb n count) (below count ns) g) (rw (row_of k n l, e) at h))

pub known : (k : Kind) (ns : List ℕ) (name : List ℕ) → good_list k ns ≡ true → listed name (spelled_rows (rows k ns)) ≡ true → Known k name
known k ns name g h = known_below k ns name (good_below k ns g) h

pub known_number : (k : Kind) (name : List ℕ) (r : Known k name) → number k name ≡ r.place
unfolding number
known_number k name r = rw r.found

-- two names of a kind are the same just if their numbers are
name_is : (k : Kind) (m n : ℕ) → m < length (names_of k) → n < length (names_of k)
    → same (get_or (names_of k) m []) (get_or (names_of k) n []) ≡ eqb m n
name_is k m n l h =
    split (eqb m n)
    (λ e. rw (e, eqb-true m n e) (same_self (get_or (names_of k) n [])))
    (λ e. split (same (get_or (names_of k) m []) (get_or (names_of k) n []))
    (λ s. absurd
    (eqb-false m n e
    (some_is (sym (number_back k m l) ∙ ap (number_of k) (same_equal (get_or (names_of k) m []) (get_or (names_of k) n []) s) ∙ number_back k n h))))
    (λ s. rw (s, e)))
  where
    some_is : {a b : ℕ} → some a ≡ some b → a ≡ b
    some_is e = cc

-- so a list of names holds a name just if the numbers hold its number
listed_below : (k : Kind) (n : ℕ) → n < length (names_of k) → (ns : List ℕ) → below (length (names_of k)) ns ≡ true
    → listed (row_spelled (first_row k + n)) (spelled_rows (rows k ns)) ≡ member n ns
unfolding listed row_spelled member below
listed_below k n l [] g = refl
listed_below k n l (m ∷ ns) g =
    let count = length (names_of k) in
    let j = ltb-true m count (and_left (ltb m count) (below count ns) g) in
    rw (listed_below k n l ns (and_right (ltb m count) (below count ns) g), row_of k n l, row_of k m j, name_is k m n j l)

pub listed_number : (k : Kind) (n : ℕ) → n < length (names_of k) → (ns : List ℕ) → good_list k ns ≡ true
    → listed (row_spelled (first_row k + n)) (spelled_rows (rows k ns)) ≡ member n ns
listed_number k n l ns g = listed_below k n l ns (good_below k ns g)
