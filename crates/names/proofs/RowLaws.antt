-- A row of any three columns: where it is, what it spells, and the first of several that spells a name.
-- Assumes nothing.
use mathlib.Core.Path.{◌≡◌, refl, sym, ap, ◌∙◌}
use mathlib.Core.Bool.{Bool, true, false, false≢true}
use mathlib.Core.List.{List}
use mathlib.Core.Option.{Option, some, none}
use Prim.Native.Nat.{ℕ, suc, ◌+◌, ◌-◌, ◌≤◌, ◌<◌}
use mathlib.Core.Logic.{⊎_elim}
use native.Mathlib.Nat.{le_refl}
use native.Mathlib.Omega.{arith}
use lib.Dec.{ltb, leb}
use lib.ListN.{length, get_or, take, drop}
use borrow.Author.Tests.{lt-ltb, le-ltb, lt-leb, le-leb}
use Rattle.std.specs.Prelude.{Result, Ok, Err, Option as Maybe, Some, None}
use Rattle.std.specs.Option.{ok_or, option_copied}
use Rattle.std.specs.Result.{IsErr, IsErrAnd}
use Rattle.std.specs.Slice.{IsItemAt, IsGetRangeResult}
use Rattle.std.proofs.Common.{Bor}
use Rattle.std.proofs.lemmas.Result.{err_from_is_err_and}
use Rattle.answer.specs.declared.Cause.{Cause}
use Rattle.answer.specs.declared.Cause.TheVariants.{BadTable}
use Rattle.answer.specs.Refusal.{number as number_of}
use Rattle.answer.specs.Answer.{Out, refused, done, guard, refuse, answered, ◌>>=◌}
use Rattle.answer.proofs.Laws.{split, pass, stop}
use Rattle.wire.specs.Shown.{bytes_of, shown_part}
use Rattle.names.specs.Spelled.{entry, row_name, there}
use Rattle.names.specs.Lookup.{row_from, is}

-- what a column answers that lends its entry
abbrev pub lent : {A : Type 0} → Result (Bor A) Cause → Out A
lent (Ok x) = done x.now
lent (Err c) = refuse (number_of c)

module _ {A : Type 0} (d : A) (xs : List A) (n : ℕ) where
  pub entry_in : n < length xs → entry d xs n ≡ done (get_or xs n d)
  unfolding entry ◌>>=◌
  entry_in h = rw (lt-ltb n (length xs) h)

  pub entry_out : length xs ≤ n → entry d xs n ≡ refuse 9
  unfolding entry ◌>>=◌
  entry_out h = rw (le-ltb n (length xs) h)

  -- `get` lends what stands there
  pub lent_entry : (r : Maybe (Bor A)) → IsItemAt xs n r → lent (ok_or r BadTable) ≡ entry d xs n
  lent_entry None g = sym (entry_out g.3)
  lent_entry (Some x) g = ap done (g.4 (le_refl n) d) ∙ sym (entry_in g.3.0)

  pub told_entry : (r : Maybe (Bor A)) → IsItemAt xs n r → (p : Result (Bor A) Cause) → p ≡ ok_or r BadTable → lent p ≡ entry d xs n
  told_entry r g p e = rw e (lent_entry r g)

  pub copied_entry : (r : Maybe (Bor A)) → IsItemAt xs n r → answered (ok_or (option_copied r) BadTable) ≡ entry d xs n
  copied_entry None g = lent_entry None g
  copied_entry (Some x) g = lent_entry (Some x) g

-- a name that is there, and one that is not
pub shown : (w : Out (List ℕ)) → there w ≡ true → w ≡ done (bytes_of w)
shown (refused r) h = absurd (false≢true h)
shown (done x) h = refl

-- one law for each answer of the code, as it hands them on
module _ (spellings starts lengths : List ℕ) (n : ℕ) (p : Result (Bor ℕ) Cause) (start : lent p ≡ entry 0 starts n) where
  pub no_start : (e : Cause) (r : Result (Bor (List ℕ)) Cause) → p ≡ Err e → IsErr r × IsErrAnd r (λ y. y ≡ e)
      → shown_part r ≡ row_name spellings starts lengths n
  unfolding row_name ◌>>=◌
  no_start e r f h = let k = err_from_is_err_and r h.1 in rw (k.1, k.2, ← start, f)

  module _ (x : Bor ℕ) (f : p ≡ Ok x) (q : Result (Bor ℕ) Cause) (len : lent q ≡ entry 0 lengths n) where
    pub no_length : (e : Cause) (r : Result (Bor (List ℕ)) Cause) → q ≡ Err e → IsErr r × IsErrAnd r (λ y. y ≡ e)
        → shown_part r ≡ row_name spellings starts lengths n
    unfolding row_name ◌>>=◌
    no_length e r g h = let k = err_from_is_err_and r h.1 in rw (k.1, k.2, ← start, f, ← len, g)

    module _ (y : Bor ℕ) (g : q ≡ Ok y) where
      told_both : row_name spellings starts lengths n ≡ (guard 9 (leb (x.now + y.now) (length spellings)) >>= (λ _. done (take y.now (drop x.now spellings))))
      unfolding row_name ◌>>=◌
      told_both = rw (← start, f, ← len, g)

      module _ (s : ℕ) (i : s ≡ x.now) (l : ℕ) (j : l ≡ y.now) where
        range_there : s + l ≤ length spellings → done (take l (drop s spellings)) ≡ row_name spellings starts lengths n
        range_there h = rw (i, j) (sym (told_both ∙ pass 9 _ _ (le-leb (x.now + y.now) (length spellings) (rw (i, j) at h))))

        range_past : length spellings < s + l → refuse 9 ≡ row_name spellings starts lengths n
        range_past h = sym (told_both ∙ stop 9 _ _ (lt-leb (x.now + y.now) (length spellings) (rw (i, j) at h)))

        pub range_shown : (r : Maybe (Bor (List ℕ))) → IsGetRangeResult spellings s (s + l) r
            → shown_part (ok_or r BadTable) ≡ row_name spellings starts lengths n
        range_shown None h = range_past (⊎_elim (λ k. absurd (omega arith)) (λ k. k) h.0)
        range_shown (Some z) h =
            let e : s + l - s ≡ l = omega arith in ap done (rw e at h.0.2) ∙ range_there h.0.1

-- a row outside is refused with 9
pub row_outside : (spellings starts lengths : List ℕ) (n : ℕ) → there (row_name spellings starts lengths n) ≡ false
    → row_name spellings starts lengths n ≡ refuse 9
unfolding row_name entry ◌>>=◌
row_outside spellings starts lengths n h =
    split (ltb n (length starts))
    (λ e. split (ltb n (length lengths))
    (λ f. split (leb (get_or starts n 0 + get_or lengths n 0) (length spellings))
    (λ o. absurd (false≢true (sym (rw (e, f, o) at h))))
    (λ o. rw (e, f, o)))
    (λ f. rw (e, f)))
    (λ e. rw e)

-- the walk over the rows: what is left still gives the answer
module _ (spellings starts lengths name : List ℕ) (i to : ℕ) (whole : Option ℕ)
    (left : whole ≡ row_from spellings starts lengths name i (to - i)) where
  pub walk_over : to ≤ i → none ≡ whole
  unfolding row_from
  walk_over h = let e : to - i ≡ 0 = omega arith in sym (rw e at left)

  module _ (h : i < to) (b : Bool) (tested : b ≡ is (row_name spellings starts lengths i) name) where
    pub walk_here : b ≡ true → some i ≡ whole
    unfolding row_from
    walk_here t = let e : to - i ≡ suc (to - (i + 1)) = omega arith in sym (rw (e, ← tested, t) at left)

    pub walk_on : b ≡ false → whole ≡ row_from spellings starts lengths name (i + 1) (to - (i + 1))
    unfolding row_from
    walk_on t = let e : to - i ≡ suc (to - (i + 1)) = omega arith in rw (e, ← tested, t) at left

pub ruleset walk_laws = (walk_over, walk_here, walk_on)
