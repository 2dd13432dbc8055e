-- An answer with its refusal's offset set: what it says but for the offset. Assumes nothing.
use mathlib.Core.Path.{◌≡◌, ap, sym}
use Prim.Native.Nat.{ℕ}
use Rattle.answer.specs.Refusal.{Refusal}
use Rattle.answer.specs.Answer.{Out, refused, done, refuse_at, placed, ◌>>=◌}
use Rattle.answer.proofs.Laws.{un_refused, not_both}

module _ {A B : Type 0} (i : ℕ) where
  -- a step whose value is known
  pub read_on : {m : Out A} {a : A} (f : A → Out B) {y : Out B} → m ≡ done a → placed i (f a) ≡ y → placed i (m >>= f) ≡ y
  unfolding ◌>>=◌
  read_on f e h = rw e h

  -- a step that two blocks share
  pub step_on : (m n : Out A) (f g : A → Out B) → placed i m ≡ n → ((a : A) → placed i (f a) ≡ g a) → placed i (m >>= f) ≡ (n >>= g)
  unfolding ◌>>=◌
  step_on (refused q) n f g e h = rw (← e)
  step_on (done a) n f g e h = rw (← e) (h a)

-- what was so before
module _ {A : Type 0} (i : ℕ) where
  pub was_done : (x : Out A) (a : A) → placed i x ≡ done a → x ≡ done a
  was_done (refused q) a e = absurd (not_both (sym e))
  was_done (done b) a e = e

  pub was_refused : (x : Out A) (r : Refusal) → placed i x ≡ refused r → (j : ℕ) × (x ≡ refuse_at r.number j)
  was_refused (refused q) r e = (q.offset, ap (λ n. refuse_at n q.offset) (ap (λ (z : Refusal). z.number) (un_refused e)))
  was_refused (done a) r e = absurd (not_both e)
