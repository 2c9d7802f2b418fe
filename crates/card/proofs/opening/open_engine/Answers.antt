-- Opening: each way out answers what the conditions give, in their order: 10, 3, 9, 18, 17.
use Rattle.std.specs.Prelude.{not}
use Rattle.std.proofs.Common.{ap}
use Rattle.std.proofs.lemmas.Result.{err_from_is_err_and}
use Rattle.card.specs.Accepted.{number_above}
use Rattle.card.specs.Opening.{open_stopped}
use Rattle.card.proofs.opening.open_engine.Goals as goal

pub returns-in_err-opening_stop : goal.returns-in_err-opening_stop
returns-in_err-opening_stop c =
    let p = err_from_is_err_and c.from_residual.result c.from_residual.ensures.1 in
    rw (p.1, p.2) (open_stopped _ _ _ _ _ c.has_room.ensures (ap not c.if-not-has_room.false) _ c.exists.ensures (ap not c.if-not-exists.false) _ c.register_passes-registered.ensures _ c.list_passes-listed.ensures _ c.is_banking_day-banking.ensures _ (c.in_err-opening_stop.ensures {u = tt})
    (number_above _))
