-- A law for each way that a row takes a line.
use Rattle.std.proofs.Common.{refl}
use Rattle.forms.specs.Rows.{line_fits, line_left}
use Rattle.forms.proofs.rows.take_row.Goals as goal

pub returns-then-row_fits : goal.returns-then-row_fits
returns-then-row_fits c = record {
  text = refl;
  taken = line_fits _ _ _ c.args.reader.now.within c.requires _ c.row_at-row.ensures _ (c.in_ok-end.ensures {u = tt}).told _ c.row_fits.ensures c.if-row_fits.true _ c.between.ensures;
}

pub returns-then-row : goal.returns-then-row
returns-then-row c = record {
  text = refl;
  taken = line_left _ _ _ c.args.reader.now.within c.requires _ c.row_at-row.ensures _ (c.in_ok-end.ensures {u = tt}).told _ c.row_fits.ensures c.if-row_fits.false c.if-row.true _ c.between-then-row.ensures;
}
