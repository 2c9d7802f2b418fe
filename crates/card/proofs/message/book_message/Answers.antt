-- One of 11 to 15, or what the rest of the call answers.
use Rattle.std.proofs.lemmas.Result.{err_from_is_err_and}
use Rattle.refusal.specs.Numbers.{number_some}
use Rattle.card.specs.Message.{sent_state, leaves_told}
use Rattle.card.proofs.message.book_message.Goals as goal

pub returns-in_err-state_stop : goal.returns-in_err-state_stop
returns-in_err-state_stop c =
    let p = err_from_is_err_and c.from_residual.result c.from_residual.ensures.1 in
    rw (p.1, p.2) (sent_state _ _ c.requires.holds_engine _ c.requires.passes _ _ (rw c.held-engine.ensures at (c.in_err-state_stop.ensures {u = tt})) (number_some _))

pub send_message-requires-clause-leaves : goal.send_message-requires-clause-leaves
send_message-requires-clause-leaves c = leaves_told _ _ _ c.requires.passes.books _ (rw c.held-engine.ensures at c.totals_of-before.ensures) _ c.position_after-p.ensures
