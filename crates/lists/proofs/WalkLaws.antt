-- The walks over a list of rows: what is left still gives the answer. Assumes nothing.
use mathlib.Core.Path.{◌≡◌, sym, ◌∙◌}
use mathlib.Core.Bool.{Bool, true, false, not}
use mathlib.Core.List.{List, ◌∷◌}
use Prim.Native.Nat.{ℕ, ◌+◌, ◌≤◌, ◌<◌, min}
use native.Mathlib.Numerals.{add-one}
use lib.ListN.{length, get_or, drop, drop_of_length-le}
use lib.Seq.{drop-cons}
use Rattle.std.proofs.Common.{Bor}
use Rattle.std.specs.Prelude.{Result, Ok, Err}
use Rattle.std.specs.Result.{is_err}
use Rattle.answer.specs.declared.Cause.{Cause}
use Rattle.answer.specs.Answer.{Out}
use Rattle.wire.specs.Shown.{bytes_of, shown_part}
use Rattle.names.specs.Spelled.{there}
use Rattle.lists.specs.Texts.{named, texts, most, size_from}

pub next_row : (rows : List ℕ) (i : ℕ) → i < length rows → drop i rows ≡ get_or rows i 0 ∷ drop (i + 1) rows
next_row rows i h = rw (add-one) (drop-cons rows i 0 h)

-- a part is answered where a name is there
known_there : (r : Result (Bor (List ℕ)) Cause) (w : Out (List ℕ)) → shown_part r ≡ w → there w ≡ not (is_err r)
known_there (Ok p) w e = rw (← e)
known_there (Err c) w e = rw (← e)

module _ (name : ℕ → Out (List ℕ)) (rows : List ℕ) (i : ℕ) where
  module _ (whole : Bool) (left : whole ≡ named name (drop i rows)) where
    pub known_end : length rows ≤ i → true ≡ whole
    unfolding named
    known_end h = sym (rw (drop_of_length-le rows h) at left)

    module _ (h : i < length rows) (k : ℕ) (read : k ≡ get_or rows i 0) (r : Result (Bor (List ℕ)) Cause) (spelt : shown_part r ≡ name k)
        (b : Bool) (tested : b ≡ is_err r) where
      here : there (name k) ≡ not b
      here = known_there r (name k) spelt ∙ rw tested

      pub known_out : b ≡ true → false ≡ whole
      unfolding named
      known_out e = sym (rw (next_row rows i h, ← read, here, e) at left)

      pub known_on : b ≡ false → whole ≡ named name (drop (i + 1) rows)
      unfolding named
      known_on e = rw (next_row rows i h, ← read, here, e) at left

  module _ (whole total : ℕ) (left : whole ≡ size_from total (texts name (drop i rows))) where
    pub size_end : length rows ≤ i → total ≡ whole
    unfolding texts size_from
    size_end h = sym (rw (drop_of_length-le rows h) at left)

    pub size_on : i < length rows → (x : List ℕ) → x ≡ bytes_of (name (get_or rows i 0)) → (t : ℕ)
        → t ≡ min (total + (length x + 1)) most → whole ≡ size_from t (texts name (drop (i + 1) rows))
    unfolding texts size_from
    size_on h x spelt t e = rw (e, spelt) (rw (next_row rows i h) at left)

pub ruleset known_laws = (known_end, known_out, known_on)

pub ruleset size_laws = (size_end, size_on)
