-- One of 1 to 8, or what the rest of the call answers; the register is the engine's.
use Rattle.std.proofs.Common.{refl}
use Rattle.std.proofs.lemmas.Result.{err_from_is_err_and}
use Rattle.conditions.specs.Answers.{passed_told}
use Rattle.card.specs.Message.{check_told, checked_refused}
use Rattle.card.proofs.message.message_engine.Goals as goal

pub returns-in_err-b : goal.returns-in_err-b
returns-in_err-b c =
    let p = err_from_is_err_and c.from_residual.result c.from_residual.ensures.1 in
    let checked = check_told _ _ _ _ (rw c.held.ensures at c.register-register.ensures) (c.in_err-b.ensures {u = tt}) in
    rw (p.1, p.2) (checked_refused _ _ c.requires _ checked c.args.output.now _ refl _ refl)

pub of-details-requires : goal.of-details-requires
of-details-requires c = rw c.count.ensures (passed_told _ _ _ _ (check_told _ _ _ _ (rw c.held.ensures at c.register-register.ensures) (c.in_ok-b.ensures {u = tt})) _ refl).judged.kept_in

pub book_message-requires-clause-passes : goal.book_message-requires-clause-passes
book_message-requires-clause-passes c =
    rw (c.of-details.ensures.message, c.of-details.ensures.kept, c.count.ensures) (passed_told _ _ _ _ (check_told _ _ _ _ (rw c.held.ensures at c.register-register.ensures) (c.in_ok-b.ensures {u = tt})) _ refl)
