-- Where the rows are matched, the detail is what the amount and the two dates make of them.
use Rattle.std.proofs.Common.{refl}
use Rattle.forms.specs.Three.{sum_small, no_first, no_second, no_third, all_three}
use Rattle.forms.specs.Details.{no_detail_rows, detail_three}
use Rattle.forms.proofs.detail.read_detail.Goals as goal

pub returns-in_err-spans : goal.returns-in_err-spans
returns-in_err-spans c = let w = (c.in_err-spans.ensures {u = tt}).taken in rw c.from_residual.ensures record { text = c.read_rows.ensures.text; taken = no_detail_rows _ _ w }

pub returns-in_err-amount : goal.returns-in_err-amount
returns-in_err-amount c =
    let k = detail_three _ _ _ _ (c.in_ok-spans.ensures {u = tt}).taken in
    let a = rw c.of.ensures at c.amount_in.ensures in
    rw c.from_residual-in_err-amount.ensures record { text = c.read_rows.ensures.text; taken = no_first _ _ _ _ _ k _ a (c.in_err-amount.was {u = tt}) }

pub returns-in_err-date : goal.returns-in_err-date
returns-in_err-date c =
    let k = detail_three _ _ _ _ (c.in_ok-spans.ensures {u = tt}).taken in
    let a = rw c.of.ensures at c.amount_in.ensures in
    let b = rw c.of-2.ensures at c.date_in.ensures in
    rw c.from_residual-in_err-date.ensures record { text = c.read_rows.ensures.text; taken = no_second _ _ _ _ _ k _ a _ (c.in_ok-amount.was {u = tt}) _ b (c.in_err-date.was {u = tt}) }

pub returns-in_err-date_in : goal.returns-in_err-date_in
returns-in_err-date_in c =
    let k = detail_three _ _ _ _ (c.in_ok-spans.ensures {u = tt}).taken in
    let a = rw c.of.ensures at c.amount_in.ensures in
    let b = rw c.of-2.ensures at c.date_in.ensures in
    let d = rw c.of-3.ensures at c.date_in-2.ensures in
    rw c.from_residual-in_err-date_in.ensures record { text = c.read_rows.ensures.text; taken = no_third _ _ _ _ _ k _ a _ (c.in_ok-amount.was {u = tt}) _ b _ (c.in_ok-date.was {u = tt}) _ d (c.in_err-date_in.was {u = tt}) }

pub returns : goal.returns
returns c =
    let w = (c.in_ok-spans.ensures {u = tt}).taken in
    let k = detail_three _ _ _ _ w in
    let a = rw c.of.ensures at c.amount_in.ensures in
    let b = rw c.of-2.ensures at c.date_in.ensures in
    let d = rw c.of-3.ensures at c.date_in-2.ensures in
    record {
      text = c.read_rows.ensures.text;
      taken = record {
        same = all_three _ _ _ _ _ k _ a _ (c.in_ok-amount.was {u = tt}) _ b _ (c.in_ok-date.was {u = tt}) _ d _ (c.in_ok-date_in.was {u = tt}) _ refl;
        place = w.place;
        within = w.within;
        small = sum_small _ _ _ a (c.in_ok-amount.was {u = tt});
        stand = w.stand;
      };
    }
