-- No two answers have one meaning: so the contract fixes the answer. Assumes nothing.
use mathlib.Core.Path.{◌≡◌}
use mathlib.Core.Bool.{Bool}
use Rattle.std.specs.Prelude.{Result}
use Rattle.answer.specs.declared.Refusal.{Refusal as Answered}
use Rattle.answer.proofs.Laws.{outcome_unique}
use Rattle.stages.specs.declared.Rows.{Rows}
use Rattle.stages.specs.Stages.{got_rows}

pub rows_unique : (a b : Result (Rows × Bool) Answered) → got_rows a ≡ got_rows b → a ≡ b
rows_unique a b h = outcome_unique (λ k. k) (λ k l e. e) a b h
