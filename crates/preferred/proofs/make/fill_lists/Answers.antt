use mathlib.Core.Path.{sym, ◌∙◌}
use Rattle.judging.proofs.ValidLaws.{valid_parts}
use Rattle.preferred.proofs.OwnLaws.{own_refused, own_made}
use Rattle.preferred.proofs.make.fill_lists.Goals as goal

pub returns-then-not-valid-clause-lists : goal.returns-then-not-valid-clause-lists
returns-then-not-valid-clause-lists c = own_refused _ (sym c.valid.ensures ∙ c.if-not-valid.true)

pub kex_rows-own-requires : goal.kex_rows-own-requires
kex_rows-own-requires c = (valid_parts _ (sym c.valid.ensures ∙ c.if-not-valid.false)).kex

pub kex_rows-own-requires-2 : goal.kex_rows-own-requires-2
kex_rows-own-requires-2 c = (valid_parts _ (sym c.valid.ensures ∙ c.if-not-valid.false)).kex

pub all_rows-own-requires : goal.all_rows-own-requires
all_rows-own-requires c = (valid_parts _ (sym c.valid.ensures ∙ c.if-not-valid.false)).cipher

pub all_rows-own-requires-2 : goal.all_rows-own-requires-2
all_rows-own-requires-2 c = (valid_parts _ (sym c.valid.ensures ∙ c.if-not-valid.false)).mac

pub all_rows-own-requires-3 : goal.all_rows-own-requires-3
all_rows-own-requires-3 c = (valid_parts _ (sym c.valid.ensures ∙ c.if-not-valid.false)).compression

pub returns-clause-lists : goal.returns-clause-lists
returns-clause-lists c =
    own_made _ (sym c.valid.ensures ∙ c.if-not-valid.false) _ _ _ _ _ _
    (rw c.others_names.ensures at c.kex_rows-own.ensures)
    c.kex_rows-own-2.ensures
    c.key_rows-own.ensures
    c.all_rows-own.ensures
    c.all_rows-own-2.ensures
    c.all_rows-own-3.ensures
