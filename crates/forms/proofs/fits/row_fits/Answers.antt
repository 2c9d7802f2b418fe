-- The code's heads are those of the definitions, and so a row's pattern is a part of them.
use Rattle.std.proofs.Common.{rules, ◌≤◌, length, ◌∙◌}
use Rattle.forms.specs.Table.{heads}
use Rattle.forms.specs.Fits.{head_long, row_head, row_rest}
use Rattle.forms.proofs.fits.row_fits.Goals as goal

pub slice_bounds-rest_fits-count : goal.slice_bounds-rest_fits-count
unfolding heads
slice_bounds-rest_fits-count c = head_long c.args.row _ c.requires _ c.begins_as.ensures c.if-begins_as.true

pub slice_bounds-rest_fits-start : goal.slice_bounds-rest_fits-start
unfolding heads
slice_bounds-rest_fits-start c = let h : c.args.row.size ≤ length c.args.line.now = head_long c.args.row _ c.requires _ c.begins_as.ensures c.if-begins_as.true in search rules

pub returns-then-begins_as : goal.returns-then-begins_as
unfolding heads
returns-then-begins_as c = row_rest c.args.row _ c.requires _ c.begins_as.ensures c.if-begins_as.true _ c.rest_fits.ensures

pub returns-else-begins_as : goal.returns-else-begins_as
unfolding heads
returns-else-begins_as c = c.if-begins_as.false ∙ row_head c.args.row _ c.requires _ c.begins_as.ensures c.if-begins_as.false
