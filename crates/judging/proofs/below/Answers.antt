use mathlib.Core.Path.{◌∙◌}
use borrow.Author.Tests.{tests}
use lib.Dec.{ltb}
use Rattle.std.proofs.Common.{rules}
use Rattle.std.proofs.lemmas.Iterator.{YieldsList-from_slice}
use Rattle.std.proofs.lemmas.Iterator.Search.{all_from_yields_List}
use Rattle.judging.proofs.JudgeLaws.{list_all-below}
use Rattle.judging.proofs.below.Goals as goal

pub returns : goal.returns
returns c =
    all_from_yields_List (λ n. ltb n c.args.count) _ _ _ c.all.ensures.ran (YieldsList-from_slice c.args.numbers.now cc) (λ x b q k. search (rules, tests))
    ∙ list_all-below c.args.count c.args.numbers.now
