-- A law of the walk for each way of the loop, by the text that the reader is over.
use Rattle.std.proofs.Common.{refl, ap, ◌∙◌, Bor, List, ℕ}
use native.Mathlib.Omega.{arith}
use Rattle.forms.specs.Details.{detail_none_taken, detail_taken}
use Rattle.conditions.specs.Tally.{walk_start, walk_bad, walk_few, walk_last, walk_on}
use Rattle.conditions.proofs.tally.tally_details.Goals as goal

pub loop-n-init : goal.loop-n-init
loop-n-init c = record { count = refl; text = refl; walking = walk_start _ _ _ refl refl refl refl record { passes = c.args.register.passes; size = omega (arith, c.well_formed) } }

pub returns-in_err-d : goal.returns-in_err-d
returns-in_err-d c =
    let i = c.loop-n.invariant in
    rw c.from_residual.ensures (walk_bad _ _ _ _ _ i.walking (omega arith) (detail_none_taken _ _ _ (ap (λ (b : Bor (List ℕ)). b.now) i.text) (c.in_err-d.ensures {u = tt})))

pub after-t-requires-clause-count_bound : goal.after-t-requires-clause-count_bound
after-t-requires-clause-count_bound c =
    let i = c.loop-n.invariant in
    walk_few _ _ _ _ _ i.walking c.args.reader.now.short _ (detail_taken _ _ _ (ap (λ (b : Bor (List ℕ)). b.now) i.text) _ (c.in_ok-d.ensures {u = tt}))

pub returns-then-closes : goal.returns-then-closes
returns-then-closes c =
    let i = c.loop-n.invariant in
    let o = ap (λ (b : Bor (List ℕ)). b.now) i.text in
    let w = detail_taken _ _ _ o _ (c.in_ok-d.ensures {u = tt}) in
    let u = rw (ap (λ (b : Bor (List ℕ)). b.now) c.read_detail.ensures.text ∙ o) at c.closes.ensures in
    walk_last _ _ _ _ _ i.walking (omega arith) _ w (rw i.count c.keep_first.ensures) _ c.after-t.ensures _ u c.if-closes.true

pub loop-n-preserved : goal.loop-n-preserved
loop-n-preserved c =
    let i = c.loop-n.invariant in
    let o = ap (λ (b : Bor (List ℕ)). b.now) i.text in
    let w = detail_taken _ _ _ o _ (c.in_ok-d.ensures {u = tt}) in
    let u = rw (ap (λ (b : Bor (List ℕ)). b.now) c.read_detail.ensures.text ∙ o) at c.closes.ensures in
    record {
      count = omega (arith, c.after-t.ensures.count, i.count);
      text = c.read_detail.ensures.text ∙ i.text;
      walking = walk_on _ _ _ _ _ i.walking (omega arith) _ w (rw i.count c.keep_first.ensures) _ c.after-t.ensures _ u c.if-closes.false;
    }
