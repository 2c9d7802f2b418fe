-- Each way out answers what the conditions of a turn give, in their order: 3, 11, 17, 16.
use Rattle.std.proofs.Common.{arith, refl}
use Rattle.std.proofs.lemmas.Result.{err_from_is_err_and}
use Rattle.card.specs.Accepted.{number_above}
use Rattle.card.specs.Turn.{turn_refused, turn_refused_room, turn_fits, turn_made}
use Rattle.card.proofs.turn.turn_engine.Goals as goal

pub returns-in_err-day_stop : goal.returns-in_err-day_stop
returns-in_err-day_stop c =
    let p = err_from_is_err_and c.from_residual.result c.from_residual.ensures.1 in
    rw (p.1, p.2) (turn_refused _ _ _ c.requires _ (rw c.held-engine.ensures at (c.in_err-day_stop.ensures {u = tt})) (number_above _))

pub returns-then-output-turn_size : goal.returns-then-output-turn_size
returns-then-output-turn_size c = turn_refused_room _ _ _ c.requires _ (rw c.held-engine.ensures at (c.in_ok-day_stop.ensures {u = tt})) refl (rw c.held-engine.ensures at c.turn_size.ensures) c.if-output-turn_size.true

pub accept_turn-requires-clause-fits : goal.accept_turn-requires-clause-fits
accept_turn-requires-clause-fits c = turn_fits _ _ c.args.output.now c.requires _ (rw c.held-engine.ensures at (c.in_ok-day_stop.ensures {u = tt})) refl (rw c.held-engine.ensures at c.turn_size.ensures) c.if-output-turn_size.false (omega (arith, c.well_formed))

pub returns : goal.returns
returns c = turn_made _ _ _ c.requires _ (rw c.held-engine.ensures at (c.in_ok-day_stop.ensures {u = tt})) refl (rw c.held-engine.ensures at c.turn_size.ensures) c.if-output-turn_size.false (omega (arith, c.well_formed)) c.accept_turn.ensures
