-- Both promises of a writer at once: its answer, and what the buffer then holds. Assumes nothing.
use mathlib.Core.Path.{◌≡◌, refl}
use mathlib.Core.List.{List}
use Prim.Native.Nat.{ℕ, ◌+◌, ◌≤◌, ◌<◌}
use lib.ListN.{length}
use lib.Seq.{sets}
use Rattle.std.specs.Prelude.{Result}
use Rattle.std.specs.Result.{IsErr, IsErrAnd}
use Rattle.std.proofs.lemmas.Result.{err_from_is_err_and}
use Rattle.answer.specs.declared.Cause.{Cause}
use Rattle.answer.specs.Refusal.{number}
use Rattle.answer.specs.Answer.{Out, done, refuse, ◌>>=◌}
use Rattle.put.specs.Written.{written, buffer, put}
use Rattle.put.proofs.PutLaws.{written_fits, written_full, buffer_fits, buffer_full}

abbrev pub Puts : List ℕ → ℕ → Out (List ℕ) → Out ℕ → List ℕ → Type 0
Puts out at what p out' = (p ≡ written out at what) × (out' ≡ buffer out at what)

-- a writer of one thing is a writer of the same thing
pub same_put : (out : List ℕ) (at : ℕ) (p : Out ℕ) (out' : List ℕ) {v w : Out (List ℕ)} → v ≡ w → Puts out at v p out' → Puts out at w p out'
same_put out at p out' e h = rw e at h

-- what is refused, what has no room, and what was stored
module _ (out : List ℕ) (at : ℕ) (what : Out (List ℕ)) where
  pub refused_put : (n : ℕ) → what ≡ refuse n → Puts out at what (refuse n) out
  unfolding written buffer ◌>>=◌
  refused_put n e = rw e (refl, refl)

  -- handed on by a `?`
  pub handed_put : (e : Cause) (r : Result ℕ Cause) → IsErr r × IsErrAnd r (λ y. y ≡ e) → what ≡ refuse (number e) → Puts out at what (put r) out
  handed_put e r h k = let p = err_from_is_err_and r h.1 in rw (p.1, p.2) (refused_put (number e) k)

  pub full_put : (x : List ℕ) → what ≡ done x → length out < at + length x → Puts out at what (refuse 8) out
  full_put x e h = rw e (rw (written_full out at x h), rw (buffer_full out at x h))

  pub stored_put : (x out' : List ℕ) (r : ℕ) → what ≡ done x → at + length x ≤ length out → (r ≡ at + length x) × (out' ≡ sets out at x)
      → Puts out at what (done r) out'
  stored_put x out' r e h s = rw (e, s.0, s.1) (rw (written_fits out at x h), rw (buffer_fits out at x h))
