-- Each way out is a law of the check.
use Rattle.std.proofs.Common.{refl, ap, ◌∙◌, Bor, List, ℕ}
use Rattle.std.proofs.lemmas.Result.{err_from_is_err_and}
use Rattle.forms.specs.Rows.{rows_none_taken, rows_taken}
use Rattle.conditions.specs.Checks.{checking, order_rowless, order_formless, order_named, order_date, order_stopped, order_good}
use Rattle.conditions.proofs.Missing.{missing}
use borrow.Author.Rules.{rules}
use Rattle.conditions.proofs.message.check_order.Goals as goal

pub returns-in_err-spans : goal.returns-in_err-spans
returns-in_err-spans c =
    let e = c.in_err-spans.ensures {u = tt} in
    let p = err_from_is_err_and c.from_residual.result c.from_residual.ensures.1 in
    let t = ap (λ (b : Bor (List ℕ)). b.now) c.body-reader.ensures.text in
    rw (missing _ _ _ _ c.from_residual.result (c.in_err-spans.was {u = tt}) c.ok_or.ensures.value e.ok_part (rw p.2 at p.1))
    (order_rowless _ _ (rows_none_taken _ _ _ _ _ _ t c.body-reader.ensures.at (rw e.ok_part at c.read_rows.ensures)))

pub returns-in_err-t : goal.returns-in_err-t
returns-in_err-t c =
    let t = ap (λ (b : Bor (List ℕ)). b.now) c.body-reader.ensures.text in
    let w = rows_taken _ _ _ _ _ _ t c.body-reader.ensures.at _ (rw (c.in_ok-spans.ensures {u = tt}).ok_part at c.read_rows.ensures) in
    let v = rw (ap (λ (b : Bor (List ℕ)). b.now) c.read_rows.ensures.text ∙ t) at c.tally_details.ensures in
    let e = c.in_err-t.ensures {u = tt} in
    let p = err_from_is_err_and c.from_residual-in_err-t.result c.from_residual-in_err-t.ensures.1 in
    rw (missing _ _ _ _ c.from_residual-in_err-t.result (c.in_err-t.was {u = tt}) c.ok_or-2.ensures.value e.ok_part (rw p.2 at p.1)) (order_formless _ _ _ _ w v e.ok_part)

pub order_stop-requires : goal.order_stop-requires
order_stop-requires c =
    let t = ap (λ (b : Bor (List ℕ)). b.now) c.body-reader.ensures.text in
    let w = rows_taken _ _ _ _ _ _ t c.body-reader.ensures.at _ (rw (c.in_ok-spans.ensures {u = tt}).ok_part at c.read_rows.ensures) in
    let v = rw (ap (λ (b : Bor (List ℕ)). b.now) c.read_rows.ensures.text ∙ t) at c.tally_details.ensures in
    let n = order_named _ _ _ _ w v _ (c.in_ok-t.ensures {u = tt}).ok_part in search (checking, rules)

pub returns-in_err-order_stop : goal.returns-in_err-order_stop
returns-in_err-order_stop c =
    let t = ap (λ (b : Bor (List ℕ)). b.now) c.body-reader.ensures.text in
    let w = rows_taken _ _ _ _ _ _ t c.body-reader.ensures.at _ (rw (c.in_ok-spans.ensures {u = tt}).ok_part at c.read_rows.ensures) in
    let v = rw (ap (λ (b : Bor (List ℕ)). b.now) c.read_rows.ensures.text ∙ t) at c.tally_details.ensures in
    let p = err_from_is_err_and c.from_residual-in_err-order_stop.result c.from_residual-in_err-order_stop.ensures.1 in
    rw (p.1, p.2) (order_stopped _ _ _ _ w v _ (c.in_ok-t.ensures {u = tt}).ok_part _ (rw c.of.ensures at (c.in_err-order_stop.ensures {u = tt})) _ refl)

pub booking_of-requires : goal.booking_of-requires
booking_of-requires c =
    let t = ap (λ (b : Bor (List ℕ)). b.now) c.body-reader.ensures.text in
    let w = rows_taken _ _ _ _ _ _ t c.body-reader.ensures.at _ (rw (c.in_ok-spans.ensures {u = tt}).ok_part at c.read_rows.ensures) in
    let v = rw (ap (λ (b : Bor (List ℕ)). b.now) c.read_rows.ensures.text ∙ t) at c.tally_details.ensures in
    order_date _ _ _ _ w v _ (c.in_ok-t.ensures {u = tt}).ok_part

pub returns : goal.returns
returns c =
    let t = ap (λ (b : Bor (List ℕ)). b.now) c.body-reader.ensures.text in
    let w = rows_taken _ _ _ _ _ _ t c.body-reader.ensures.at _ (rw (c.in_ok-spans.ensures {u = tt}).ok_part at c.read_rows.ensures) in
    let v = rw (ap (λ (b : Bor (List ℕ)). b.now) c.read_rows.ensures.text ∙ t) at c.tally_details.ensures in
    order_good _ _ _ _ w v _ (c.in_ok-t.ensures {u = tt}).ok_part _ (rw c.of.ensures at (c.in_ok-order_stop.ensures {u = tt})) refl _ c.behind-reference.ensures _ c.booking_of.ensures
