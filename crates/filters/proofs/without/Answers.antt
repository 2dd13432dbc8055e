use mathlib.Core.Bool.{not}
use Rattle.std.proofs.Common.{rules}
use Rattle.filters.specs.Picked.{member, without}
use Rattle.filters.proofs.MadeLaws.{list_any-member}
use Rattle.filters.proofs.without.Goals as goal

pub returns : goal.returns
unfolding without
returns c = c.picked.ensures (λ n. not (member n c.args.dropped.now)) (λ n b k. rw (← list_any-member n c.args.dropped.now) (search rules))
