-- One step of a reader at a time, in the words of what the code tells: a `?` goes on with the value that the callee read, or
-- hands its refusal on. A definition is opened by `unfolding`, and `search field_steps` walks its block. Assumes nothing.
use mathlib.Core.Path.{◌≡◌, refl, sym, ap, ◌∙◌}
use Rattle.std.specs.Prelude.{Result}
use Rattle.std.specs.Result.{IsErr, IsErrAnd, result_from_control_flow}
use Rattle.std.proofs.Common.{Continue, Break}
use Rattle.std.proofs.lemmas.Result.{err_from_is_err_and}
use Rattle.answer.specs.declared.Refusal.{Refusal as Answered}
use Rattle.answer.specs.Refusal.{told}
use Rattle.answer.specs.Answer.{Out, refused, done, outcome, ◌>>=◌}

-- what a callee answered, what the `?` made of it
module _ {A C : Type 0} (read : A → C) (w : Result A Answered) (o : Out C) (seen : outcome read w ≡ o)
    (b : _) (was : w ≡ result_from_control_flow b) where
  pub went_on : (a : A) → b ≡ Continue a → done (read a) ≡ o
  went_on a e = rw (was, e) at seen

  pub came_out : (e : _) → b ≡ Break e → refused (told e.0) ≡ o
  came_out e f = rw (was, f) at seen

  module _ {B : Type 0} (f : C → Out B) where
    pub step_on : (m : Out B) (a : A) → b ≡ Continue a → m ≡ f (read a) → m ≡ (o >>= f)
    unfolding ◌>>=◌
    step_on m a e k = rw (← (went_on a e)) k

    pub step_out : {D : Type 0} (g : D → B) (e : _) (r : Result D Answered) → b ≡ Break e
        → IsErr r × IsErrAnd r (λ y. y ≡ e.0) → outcome g r ≡ (o >>= f)
    unfolding ◌>>=◌
    step_out g e r k h = let p = err_from_is_err_and r h.1 in rw (← (came_out e k), p.1, p.2)

-- a test that hands nothing back
pub end_on : {B : Type 0} (w : Result (Unit {0}) Answered) (o : Out (Unit {0})) → outcome (λ u. u) w ≡ o → (b : _) → w ≡ result_from_control_flow b
    → (f : Unit {0} → Out B) (m : Out B) (a : Unit {0}) → b ≡ Continue a → m ≡ f tt → m ≡ (o >>= f)
end_on w o seen b was f m a e k = step_on (λ u. u) w o seen b was f m a e k

pub ruleset field_steps = (refl, step_on, end_on, step_out)
