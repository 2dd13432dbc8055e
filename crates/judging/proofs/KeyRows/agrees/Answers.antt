use mathlib.Core.Bool.{Bool, not, ◌||◌}
use mathlib.Core.Path.{◌∙◌}
use Prim.Native.Nat.{ℕ}
use borrow.Author.Tests.{tests}
use lib.Dec.{eqb}
use Rattle.std.proofs.Common.{rules}
use Rattle.std.proofs.lemmas.Iterator.{YieldsList-from_slice, YieldsList-from_zip}
use Rattle.std.proofs.lemmas.Iterator.Search.{all_from_yields_List}
use Rattle.judging.specs.Tables.{agrees}
use Rattle.judging.proofs.JudgeLaws.{list_all-zip}
use Rattle.judging.proofs.KeyRows.agrees.Goals as goal

pub returns : goal.returns
unfolding agrees
returns c =
    let f : ℕ → ℕ → Bool = λ k i. not (eqb i c.args.id) || eqb k c.args.kind in
    all_from_yields_List (λ r. f r.0 r.1) c.all.new.self _ _ c.all.ensures.ran (YieldsList-from_zip (YieldsList-from_slice c.args.self.now.kinds.now cc) (YieldsList-from_slice c.args.self.now.ids.now cc)) (λ x b q k. search (rules, tests))
    ∙ list_all-zip f c.args.self.now.kinds.now c.args.self.now.ids.now
