-- The positions of the area are the engine's.
use Rattle.std.proofs.Common.{arith}
use Rattle.engine.specs.Lookup.{positions_are}
use Rattle.turn_text.specs.Sums.{sums_turn, sums_end}
use Rattle.turn_text.proofs.sums.turn_sums.Goals as goal

pub loop-i-preserved : goal.loop-i-preserved
loop-i-preserved c = sums_turn _ _ _ _ c.loop-i.invariant (omega arith) c.position.ensures c.with_position-s.ensures

pub returns : goal.returns
returns c = sums_end _ _ _ _ _ c.loop-i.invariant (positions_are _ c.args.engine.holds _ c.header-n.ensures) (omega arith) c.header-n.ensures.positions_few
