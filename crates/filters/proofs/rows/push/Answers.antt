use Rattle.filters.proofs.RowLaws.{tidy_pushed}
use Rattle.filters.proofs.rows.push.Goals as goal

pub invariant_of-list : goal.invariant_of-list
invariant_of-list c = tidy_pushed c.list.inside c.args.number c.list.invariant c.if-len-lt-MOST_OWN.true
