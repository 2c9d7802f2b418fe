-- Each message takes its line, so that fewer bytes are left.
use Rattle.std.proofs.Common.{length}
use Rattle.try_forms.proofs.try_each.Given as goal

abbrev pub decreases-loop-e : goal.decreases-loop-e
decreases-loop-e g l = length l.rest
