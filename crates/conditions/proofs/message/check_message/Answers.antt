-- The conditions 1 and 2, then 3 to 8 by the message's type; the register's text begins with the temporary account.
use Rattle.std.proofs.Common.{ap, Bor, List, ℕ}
use Rattle.std.proofs.lemmas.Result.{err_from_is_err_and}
use Rattle.std.specs.Option.{is_some}
use Rattle.conditions.specs.Checks.{message_unframed, message_unaddressed, message_transfer, message_order}
use Rattle.conditions.proofs.Missing.{missing}
use Rattle.conditions.proofs.message.check_message.Goals as goal

pub returns-in_err-message : goal.returns-in_err-message
returns-in_err-message c =
    let e = c.in_err-message.ensures {u = tt} in
    let p = err_from_is_err_and c.from_residual.result c.from_residual.ensures.1 in
    rw (missing _ _ _ _ c.from_residual.result (c.in_err-message.was {u = tt}) c.ok_or.ensures.value e.ok_part (rw p.2 at p.1)) (message_unframed _ _ _ c.framed.ensures.framed (ap is_some e.ok_part))

pub returns-then-not-is_addressed : goal.returns-then-not-is_addressed
returns-then-not-is_addressed c =
    let k = (c.in_ok-message.ensures {u = tt}).ok_part in
    let e = ap (λ (b : Bor (List ℕ)). b.now) (rw k at c.framed.ensures.its) in
    message_unaddressed _ _ _ c.framed.ensures.framed (ap is_some k) _ (rw e at c.is_addressed.ensures) c.if-not-is_addressed.true

pub returns-then-is_type : goal.returns-then-is_type
returns-then-is_type c =
    let k = (c.in_ok-message.ensures {u = tt}).ok_part in
    let e = ap (λ (b : Bor (List ℕ)). b.now) (rw k at c.framed.ensures.its) in
    message_transfer _ _ _ c.framed.ensures.framed (ap is_some k) _ (rw e at c.is_addressed.ensures) c.if-not-is_addressed.false _ (rw e at c.is_type.ensures) _ c.if-is_type.true _ c.temporary.ensures.account (rw e at c.check_transfer.ensures)

pub returns : goal.returns
returns c =
    let k = (c.in_ok-message.ensures {u = tt}).ok_part in
    let e = ap (λ (b : Bor (List ℕ)). b.now) (rw k at c.framed.ensures.its) in
    message_order _ _ _ c.framed.ensures.framed (ap is_some k) _ (rw e at c.is_addressed.ensures) c.if-not-is_addressed.false _ (rw e at c.is_type.ensures) _ c.if-is_type.false (rw e at c.check_order.ensures)
