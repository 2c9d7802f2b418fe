-- A position with no details adds nothing, every other its difference.
use Rattle.std.proofs.Common.{rules}
use Rattle.turn_text.specs.Sums.{summing}
use Rattle.turn_text.proofs.sums.Sums.with_position.Goals as goal

pub returns-then-p-eq0 : goal.returns-then-p-eq0
returns-then-p-eq0 c = search (summing, rules)

pub returns : goal.returns
returns c = search (summing, rules)
