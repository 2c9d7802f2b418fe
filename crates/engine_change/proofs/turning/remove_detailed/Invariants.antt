-- Positions without details, moved to the front one by one; then zeros over what they leave. The loop's invariant: of those passed, the ones that stay are at the front.
use Rattle.rules.specs.Area.{positions_place}
use Rattle.laws.specs.Moving.{Keeping}
use Rattle.engine_change.specs.Turning.{stays}
use Rattle.engine_change.proofs.turning.remove_detailed.Given as goal

abbrev pub invariant-loop-i : goal.invariant-loop-i
invariant-loop-i l = Keeping stays 24 l.n positions_place l.initial.area l.i l.j l.area
