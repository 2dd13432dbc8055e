-- Each answer by the law of its end; where `lacks` said no, there is room for the length and for the bytes after it. Assumes nothing.
use mathlib.Core.Path.{sym, ◌∙◌}
use native.Mathlib.Omega.{arith}
use borrow.Author.Tests.{ltb-false}
use Rattle.put.proofs.CodeLaws.{code}
use Rattle.put.proofs.put_string.Goals as goal

pub returns-then-x-gt-LONGEST : goal.returns-then-x-gt-LONGEST
returns-then-x-gt-LONGEST c = search code

pub returns-then-lacks : goal.returns-then-lacks
returns-then-lacks c = search code

pub store_u32-body-requires : goal.store_u32-body-requires
store_u32-body-requires c =
    let e = sym c.lacks.ensures ∙ c.if-lacks.false in
    omega (arith, ltb-false)

pub store_bytes-requires : goal.store_bytes-requires
store_bytes-requires c =
    let e = sym c.lacks.ensures ∙ c.if-lacks.false in
    omega (arith, ltb-false)

pub returns : goal.returns
returns c = search code
