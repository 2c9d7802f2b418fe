-- Where the rows are matched and the closing line follows, the transfer is what the date, the amount and BAEREF's date make of them.
use Rattle.std.proofs.Common.{refl, ap, ◌∙◌, Bor, List, ℕ}
use Rattle.forms.specs.Rows.{rows_none_taken, rows_taken}
use Rattle.forms.specs.Three.{sum_small, no_first, no_second, no_third, all_three}
use Rattle.forms.specs.Transfers.{no_transfer_rows, transfer_open, transfer_three}
use Rattle.forms.proofs.transfer.read_transfer.Goals as goal

pub returns-in_err-spans : goal.returns-in_err-spans
returns-in_err-spans c = let t = ap (λ (b : Bor (List ℕ)). b.now) c.body-reader.ensures.text in rw c.from_residual.ensures (no_transfer_rows _ (rows_none_taken _ _ _ _ _ _ t c.body-reader.ensures.at (c.in_err-spans.ensures {u = tt})))

pub returns-then-not-closes : goal.returns-then-not-closes
returns-then-not-closes c =
    let t = ap (λ (b : Bor (List ℕ)). b.now) c.body-reader.ensures.text in
    let w = rows_taken _ _ _ _ _ _ t c.body-reader.ensures.at _ (c.in_ok-spans.ensures {u = tt}) in
    let e = ap (λ (b : Bor (List ℕ)). b.now) c.read_rows.ensures.text ∙ t in
    let u = rw e at c.closes.ensures in
    transfer_open _ _ _ w _ u c.if-not-closes.true

pub returns-in_err-date : goal.returns-in_err-date
returns-in_err-date c =
    let t = ap (λ (b : Bor (List ℕ)). b.now) c.body-reader.ensures.text in
    let w = rows_taken _ _ _ _ _ _ t c.body-reader.ensures.at _ (c.in_ok-spans.ensures {u = tt}) in
    let e = ap (λ (b : Bor (List ℕ)). b.now) c.read_rows.ensures.text ∙ t in
    let u = rw e at c.closes.ensures in
    let k = transfer_three _ _ _ w _ u c.if-not-closes.false in
    let d = rw c.of.ensures at c.date_in.ensures in
    rw c.from_residual-in_err-date.ensures (no_first _ _ _ _ _ k _ d (c.in_err-date.was {u = tt}))

pub returns-in_err-amount : goal.returns-in_err-amount
returns-in_err-amount c =
    let t = ap (λ (b : Bor (List ℕ)). b.now) c.body-reader.ensures.text in
    let w = rows_taken _ _ _ _ _ _ t c.body-reader.ensures.at _ (c.in_ok-spans.ensures {u = tt}) in
    let e = ap (λ (b : Bor (List ℕ)). b.now) c.read_rows.ensures.text ∙ t in
    let u = rw e at c.closes.ensures in
    let k = transfer_three _ _ _ w _ u c.if-not-closes.false in
    let d = rw c.of.ensures at c.date_in.ensures in
    let m = rw c.of-2.ensures at c.amount_in.ensures in
    rw c.from_residual-in_err-amount.ensures (no_second _ _ _ _ _ k _ d _ (c.in_ok-date.was {u = tt}) _ m (c.in_err-amount.was {u = tt}))

pub returns-in_err-date_in : goal.returns-in_err-date_in
returns-in_err-date_in c =
    let t = ap (λ (b : Bor (List ℕ)). b.now) c.body-reader.ensures.text in
    let w = rows_taken _ _ _ _ _ _ t c.body-reader.ensures.at _ (c.in_ok-spans.ensures {u = tt}) in
    let e = ap (λ (b : Bor (List ℕ)). b.now) c.read_rows.ensures.text ∙ t in
    let u = rw e at c.closes.ensures in
    let k = transfer_three _ _ _ w _ u c.if-not-closes.false in
    let d = rw c.of.ensures at c.date_in.ensures in
    let m = rw c.of-2.ensures at c.amount_in.ensures in
    let b = rw c.of-3.ensures at c.date_in-2.ensures in
    rw c.from_residual-in_err-date_in.ensures (no_third _ _ _ _ _ k _ d _ (c.in_ok-date.was {u = tt}) _ m _ (c.in_ok-amount.was {u = tt}) _ b (c.in_err-date_in.was {u = tt}))

pub returns : goal.returns
returns c =
    let t = ap (λ (b : Bor (List ℕ)). b.now) c.body-reader.ensures.text in
    let w = rows_taken _ _ _ _ _ _ t c.body-reader.ensures.at _ (c.in_ok-spans.ensures {u = tt}) in
    let e = ap (λ (b : Bor (List ℕ)). b.now) c.read_rows.ensures.text ∙ t in
    let u = rw e at c.closes.ensures in
    let k = transfer_three _ _ _ w _ u c.if-not-closes.false in
    let d = rw c.of.ensures at c.date_in.ensures in
    let m = rw c.of-2.ensures at c.amount_in.ensures in
    let b = rw c.of-3.ensures at c.date_in-2.ensures in
    record {
      same = all_three _ _ _ _ _ k _ d _ (c.in_ok-date.was {u = tt}) _ m _ (c.in_ok-amount.was {u = tt}) _ b _ (c.in_ok-date_in.was {u = tt}) _ refl;
      within = w.within;
      small = sum_small _ _ _ m (c.in_ok-amount.was {u = tt});
    }
