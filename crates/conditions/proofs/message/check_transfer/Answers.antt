-- Not in form, a condition that holds, or the parts read.
use Rattle.std.proofs.Common.{refl}
use Rattle.std.proofs.lemmas.Result.{err_from_is_err_and}
use Rattle.conditions.specs.Checks.{transfer_stopped, transfer_good}
use Rattle.conditions.proofs.message.check_transfer.Goals as goal

pub returns-in_err-transfer_stop : goal.returns-in_err-transfer_stop
returns-in_err-transfer_stop c =
    let p = err_from_is_err_and c.from_residual-in_err-transfer_stop.result c.from_residual-in_err-transfer_stop.ensures.1 in
    rw (p.1, p.2) (transfer_stopped _ _ _ (rw (c.in_ok-t.ensures {u = tt}).ok_part at c.read_transfer.ensures) _ (c.in_err-transfer_stop.ensures {u = tt}) _ refl)

pub returns : goal.returns
returns c = transfer_good _ _ _ (rw (c.in_ok-t.ensures {u = tt}).ok_part at c.read_transfer.ensures) _ (c.in_ok-transfer_stop.ensures {u = tt}) refl _ c.behind-reference.ensures _ c.booking_of.ensures
