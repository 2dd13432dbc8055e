-- Each read that goes on gives a byte at least, and no more than the space that is left.
use Rattle.std.proofs.Common.{length, ◌-◌, ◌≤◌}
use Rattle.peers.proofs.read_full.Given as goal

abbrev pub invariant-loop-done : goal.invariant-loop-done
invariant-loop-done g l = l.done ≤ length l.space

abbrev pub decreases-loop-done : goal.decreases-loop-done
decreases-loop-done g l = length l.space - l.done
