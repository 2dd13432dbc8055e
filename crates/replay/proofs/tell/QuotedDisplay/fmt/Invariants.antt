-- Each turn takes a byte or a run.
use Rattle.std.proofs.Common.{length, ◌-◌}
use Rattle.replay.proofs.tell.QuotedDisplay.fmt.Given as goal

abbrev pub decreases-loop-i : goal.decreases-loop-i
decreases-loop-i g l = length l.x - l.i
