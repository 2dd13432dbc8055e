-- How a block ends: with a refusal that is so, or with a value that is so. Assumes nothing.
use mathlib.Core.Path.{◌≡◌, refl}
use mathlib.Core.Bool.{Bool, true, false}
use Prim.Native.Nat.{ℕ}
use Rattle.answer.specs.Refusal.{Refusal}
use Rattle.answer.specs.Answer.{Out, refused, done, guard_at, placed, ◌>>=◌}
use Rattle.answer.proofs.Laws.{un_refused, not_both}

pub data Ends {A : Type 0} (Q : Refusal → Type 0) (P : A → Type 0) : Out A → Type 0 where
  stops : {r : Refusal} → Q r → Ends Q P (refused r)
  gives : {a : A} → P a → Ends Q P (done a)

-- a step, and what follows it
pub next : {A B : Type 0} {Q : Refusal → Type 0} {P : A → Type 0} {R : B → Type 0} (m : Out A) (f : A → Out B) → Ends Q P m
    → ((a : A) → P a → Ends Q R (f a)) → Ends Q R (m >>= f)
unfolding ◌>>=◌
next m f (stops q) k = stops q
next m f (gives {a = a} p) k = k a p

pub test : {Q : Refusal → Type 0} (n i : ℕ) (b : Bool) → Q (record { number = n; offset = i }) → Ends Q (λ (u : Unit {0}). b ≡ true) (guard_at n i b)
test n i true q = gives refl
test n i false q = stops q

-- a refusal that is set to where its field stands
pub at_field : {A : Type 0} {Q R : Refusal → Type 0} {P : A → Type 0} (i : ℕ) (m : Out A)
    → ((r : Refusal) → Q r → R (record { number = r.number; offset = i })) → Ends Q P m → Ends R P (placed i m)
at_field i m k (stops {r = r} q) = stops (k r q)
at_field i m k (gives p) = gives p

pub of_refused : {A : Type 0} {Q : Refusal → Type 0} {P : A → Type 0} {m : Out A} → Ends Q P m → (r : Refusal) → m ≡ refused r → Q r
of_refused (stops q) r e = rw (un_refused e) at q
of_refused (gives p) r e = absurd (not_both e)
