-- The first i stand before it.
use Rattle.engine.specs.Front.{Before}
use Rattle.engine.proofs.places.place_by.Given as goal

abbrev pub invariant-loop-i : goal.invariant-loop-i
invariant-loop-i g l = Before (goal.F-post g l.before) l.i
