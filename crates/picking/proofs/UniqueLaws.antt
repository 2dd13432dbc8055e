-- No two answers have one meaning, whatever payload was lent: so the contract fixes the answer. Assumes nothing.
use mathlib.Core.Path.{◌≡◌}
use mathlib.Core.Bool.{Bool}
use mathlib.Core.List.{List}
use Prim.Native.Nat.{ℕ}
use Rattle.std.specs.Prelude.{Result}
use Rattle.answer.specs.declared.Refusal.{Refusal as Answered}
use Rattle.answer.proofs.Laws.{outcome_unique}
use Rattle.wire.specs.Fields.{At}
use Rattle.picking.specs.declared.Picked.{Picked}
use Rattle.picking.specs.Picking.{row_read, picked_of}

row_unique : (s : List ℕ) (a b : Picked) → ◌≡◌ {A = ℕ × Bool × At} (row_read s a) (row_read s b) → a ≡ b
row_unique s a b e = λ i. record { row = (e i).0; first = (e i).1; next = record { at = (e i).2.at } }

pub picked_unique : (s : List ℕ) (a b : Result Picked Answered) → picked_of s a ≡ picked_of s b → a ≡ b
picked_unique s a b h = outcome_unique (row_read s) (row_unique s) a b h
