-- `detail_lines::rows::put_account_row` meets its contract: field 59 behind its slash and line end.
use Rattle.put.specs.Writes.{writes_then}
use Rattle.detail_lines.proofs.rows.put_account_row.Goals as goal

pub returns : goal.returns
returns c = let account = rw c.behind.ensures at c.put_bytes.ensures in writes_then account c.put_end.ensures
