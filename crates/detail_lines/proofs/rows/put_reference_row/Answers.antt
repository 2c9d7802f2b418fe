-- `detail_lines::rows::put_reference_row` meets its contract: the row's front, N and line end.
use Rattle.put.specs.Writes.{writes_3}
use Rattle.detail_lines.proofs.rows.put_reference_row.Goals as goal

pub returns : goal.returns
returns c = let n = rw c.behind.ensures at c.put_bytes.ensures in writes_3 c.put_row_front.ensures n c.put_end.ensures
