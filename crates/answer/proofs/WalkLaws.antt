-- Walking a block of definitions: step by step, beside another block, and with what is so of everything that it accepts.
-- Assumes nothing.
use mathlib.Core.Path.{◌≡◌, refl, sym}
use mathlib.Core.Bool.{Bool, true, false}
use Prim.Native.Nat.{ℕ}
use Rattle.answer.specs.Refusal.{Refusal}
use Rattle.answer.specs.Answer.{Out, refused, done, guard_at, ◌>>=◌}
use Rattle.answer.proofs.Laws.{un_done, not_both}

-- a step whose value is known
pub read : {A B : Type 0} {m : Out A} {a : A} (f : A → Out B) {y : Out B} → m ≡ done a → f a ≡ y → (m >>= f) ≡ y
unfolding ◌>>=◌
read f e h = rw e h

-- a step that two blocks share
pub on : {A B : Type 0} (m : Out A) {f g : A → Out B} → ((a : A) → f a ≡ g a) → (m >>= f) ≡ (m >>= g)
unfolding ◌>>=◌
on (refused r) h = refl
on (done a) h = h a

-- it holds of the value, if there is one
pub data Post {A : Type 0} (P : A → Type 0) : Out A → Type 0 where
  nothing : {r : Refusal} → Post P (refused r)
  at_end : {a : A} → P a → Post P (done a)

-- a step: what is accepted is so, if it is so after each value that the step can give
pub go_on : {A B : Type 0} {P : B → Type 0} (m : Out A) (f : A → Out B) → ((a : A) → m ≡ done a → Post P (f a)) → Post P (m >>= f)
unfolding ◌>>=◌
go_on (refused r) f k = nothing
go_on (done a) f k = k a refl

pub of_accepted : {A : Type 0} {P : A → Type 0} {m : Out A} (a : A) → Post P m → m ≡ done a → P a
of_accepted a nothing e = absurd (not_both (sym e))
of_accepted a (at_end h) e = rw (un_done e) at h

-- a test that let the block go on holds
pub passed : (n i : ℕ) (b : Bool) (u : Unit {0}) → guard_at n i b ≡ done u → b ≡ true
passed n i true u e = refl
passed n i false u e = absurd (not_both (sym e))
