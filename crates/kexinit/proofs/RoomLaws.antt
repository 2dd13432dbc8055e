-- The room for the whole is not there, or it is. Assumes nothing.
use mathlib.Core.Path.{◌≡◌}
use mathlib.Core.List.{List}
use Prim.Native.Nat.{ℕ, ◌≤◌, ◌<◌}
use borrow.Author.Tests.{lt-ltb, le-ltb}
use lib.ListN.{length}
use Rattle.answer.specs.Answer.{Out, done, refuse}
use Rattle.put.specs.Runs.{ended, filled}
use Rattle.preferred.specs.declared.Own.{Own}
use Rattle.kexinit.specs.Pieces.{pieces, size, answered, left}

-- by what was measured: the answer, and the buffer
module _ (name : ℕ → Out (List ℕ)) (out : List ℕ) (own : Own) (cookie : List ℕ) (n : ℕ) (measured : n ≡ size name own) where
  pub full_answer : length out < n → refuse 8 ≡ answered name out own cookie
  unfolding answered
  full_answer h = rw (← measured, lt-ltb (length out) n h)

  pub full_bytes : length out < n → out ≡ left name out own cookie
  unfolding left
  full_bytes h = rw (← measured, lt-ltb (length out) n h)

  pub fits_answer : (p : ℕ) → n ≤ length out → p ≡ ended out 0 (pieces name own cookie) → done p ≡ answered name out own cookie
  unfolding answered
  fits_answer p h e = rw (← measured, le-ltb (length out) n h, e)

  pub fits_bytes : (out' : List ℕ) → n ≤ length out → out' ≡ filled out 0 (pieces name own cookie) → out' ≡ left name out own cookie
  unfolding left
  fits_bytes out' h e = rw (← measured, le-ltb (length out) n h, e)

pub ruleset own_laws = (full_answer, full_bytes, fits_answer, fits_bytes)
