-- What a caller reads off the lists that are handed over. Assumes nothing.
use mathlib.Core.Path.{◌≡◌, refl, ap}
use mathlib.Core.Bool.{true, false}
use mathlib.Core.List.{List}
use Prim.Native.Nat.{ℕ}
use Rattle.answer.specs.Answer.{done, refuse}
use Rattle.answer.specs.Refusal.{Refusal}
use Rattle.answer.proofs.Laws.{split}
use Rattle.judging.specs.Tables.{Tables, valid}
use Rattle.filters.specs.Made.{row_list, shown}
use Rattle.preferred.specs.declared.Own.{Own}
use Rattle.preferred.specs.Own.{lists_of, own_of}

-- what stands in a list that is handed over is the list
pub handed_rows : (xs : List ℕ) → shown (row_list xs) ≡ xs
handed_rows xs = refl

module _ (t : Tables) where
  -- valid tables give the lists
  pub own_lists : valid t ≡ true → own_of t ≡ done (lists_of t)
  unfolding own_of
  own_lists h = rw h

  -- any others give 9 and nothing else
  pub own_nothing : valid t ≡ false → own_of t ≡ refuse 9
  unfolding own_of
  own_nothing h = rw h

  -- lists say that the tables are valid, and are theirs
  pub lists_valid : (o : Own) → done o ≡ own_of t → valid t ≡ true
  unfolding own_of
  lists_valid o h = split (valid t) (λ e. e) (λ e. let q = rw e at h in cc)

  pub lists_own : (o : Own) → done o ≡ own_of t → o ≡ lists_of t
  unfolding own_of
  lists_own o h = split (valid t) (λ e. let q = rw e at h in cc) (λ e. let q = rw e at h in cc)

  -- a refusal says that they are not, and is 9
  pub refusal_invalid : (n : ℕ) → refuse {A = Own} n ≡ own_of t → valid t ≡ false
  unfolding own_of
  refusal_invalid n h = split (valid t) (λ e. let q = rw e at h in cc) (λ e. e)

  pub refusal_number : (n : ℕ) → refuse {A = Own} n ≡ own_of t → n ≡ 9
  unfolding own_of
  refusal_number n h =
      split (valid t)
      (λ e. let q = rw e at h in cc)
      (λ e. let q = rw e at h in let r : ◌≡◌ {A = Refusal} (record { offset = 0; number = n }) (record { offset = 0; number = 9 }) = cc in ap (λ (r : Refusal). r.number) r)
