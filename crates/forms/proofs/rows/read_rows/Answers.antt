-- A law of the loop over the rows for each way that it goes.
use Rattle.std.proofs.Common.{refl, arith, ap, ◌∙◌, Bor, List, ℕ}
use Rattle.forms.specs.Rows.{rows_start, rows_on, row_taken}
use Rattle.forms.proofs.rows.read_rows.Goals as goal

pub loop-i-init : goal.loop-i-init
loop-i-init g c = record { rowing = rows_start _ _ _ _ c.args.reader.now.within; text = refl }

pub loop-i-preserved : goal.loop-i-preserved
loop-i-preserved g c = let i = c.loop-i.invariant in record {
  rowing = rows_on _ _ _ _ _ _ _ i.rowing c.requires (omega arith) _ _ (row_taken _ _ _ _ (ap (λ (b : Bor (List ℕ)). b.now) i.text) _ (c.in_ok-spans.ensures {u = tt}));
  text = c.take_row.ensures.text ∙ i.text;
}
