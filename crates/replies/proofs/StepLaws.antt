-- One step of a reader at a time: a law for each way on and for each way out, in the words of the code's tests and of what
-- its callees ensure. Assumes nothing.
use mathlib.Core.Path.{◌≡◌}
use mathlib.Core.Bool.{not}
use Prim.Native.Nat.{ℕ, ◌≤◌, ◌<◌}
use borrow.Author.Tests.{le-leb, lt-leb, eq-eqb, ne_eqb}
use lib.Dec.{leb, eqb}
use Rattle.answer.specs.declared.Cause.TheVariants.{TooLong, Inconsistent}
use Rattle.answer.specs.declared.Refusal.{Refusal as Answered}
use Rattle.answer.specs.Refusal.{told}
use Rattle.answer.specs.Answer.{Out, refused, guard, guard_at, ◌>>=◌}
use Rattle.answer.proofs.Laws.{No, NoAt}
use Rattle.wire.proofs.StepLaws.{field_steps}

-- the two limits that are tested
module _ {B : Type 0} (a most : ℕ) (f : Unit {0} → Out B) where
  pub limit_on : (m : Out B) → a ≤ most → m ≡ f tt → m ≡ (guard 1 (leb a most) >>= f)
  unfolding ◌>>=◌
  limit_on m h k = rw (le-leb a most h) k

  pub limit_out : (r : Answered) → most < a → No TooLong r → refused (told r) ≡ (guard 1 (leb a most) >>= f)
  unfolding ◌>>=◌
  limit_out r h e = rw (lt-leb a most h, e)

module _ {B : Type 0} (n i : ℕ) (f : Unit {0} → Out B) where
  pub zero_on : (m : Out B) → (n ≡ 0 → ⊥) → m ≡ f tt → m ≡ (guard_at 6 i (not (eqb n 0)) >>= f)
  unfolding ◌>>=◌
  zero_on m h k = rw (ne_eqb n 0 h) k

  pub zero_out : (r : Answered) → n ≡ 0 → NoAt Inconsistent i r → refused (told r) ≡ (guard_at 6 i (not (eqb n 0)) >>= f)
  unfolding ◌>>=◌
  zero_out r h e = rw (eq-eqb n 0 h, e)

pub ruleset steps = (field_steps, limit_on, limit_out, zero_on, zero_out)
