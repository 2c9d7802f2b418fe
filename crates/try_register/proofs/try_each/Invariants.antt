-- Each turn leaves less of the input.
use Rattle.std.proofs.Common.{length}
use Rattle.try_register.proofs.try_each.Given as goal

abbrev pub decreases-loop-mark : goal.decreases-loop-mark
decreases-loop-mark g l = length l.rest
