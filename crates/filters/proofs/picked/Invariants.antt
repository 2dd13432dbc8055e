use mathlib.Core.Bool.{Bool}
use mathlib.Core.List.{[]}
use mathlib.Core.Path.{◌≡◌}
use Prim.Native.Nat.{ℕ}
use lib.ListN.{drop}
use Rattle.choice.specs.Choice.{kept}
use Rattle.filters.specs.Made.{row_list, joined}
use Rattle.filters.proofs.picked.Given as goal

abbrev pub invariant-loop-n : goal.invariant-loop-n
invariant-loop-n g l =
    (p : ℕ → Bool) → ((n : ℕ) (b : Bool) → goal.F-post g l.keep n b → b ≡ p n)
    → joined (row_list []) (kept p l.numbers) ≡ joined l.list (kept p (drop l.n-index l.numbers))
