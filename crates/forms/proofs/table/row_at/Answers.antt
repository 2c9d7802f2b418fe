-- The code's rows are those of the definitions.
use Rattle.std.proofs.Common.{refl}
use Rattle.forms.specs.Table.{codes, row_told}
use Rattle.forms.proofs.table.row_at.Goals as goal

pub returns : goal.returns
unfolding codes
returns c = row_told c.requires refl
