use Rattle.std.proofs.Common.{rules}
use Rattle.filters.specs.Picked.{member, held, kind_of}
use Rattle.filters.proofs.MadeLaws.{list_any-member}
use Rattle.filters.proofs.held.Goals as goal

pub returns : goal.returns
unfolding held
returns c = c.picked.ensures (λ n. member (kind_of n) c.args.kinds.now) (λ n b k. rw (← list_any-member (kind_of n) c.args.kinds.now) (search rules))
