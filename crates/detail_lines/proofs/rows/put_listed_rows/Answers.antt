-- `detail_lines::rows::put_listed_rows` meets its contract: one row behind the other.
use Rattle.put.specs.Writes.{writes_then}
use Rattle.detail_lines.proofs.rows.put_listed_rows.Goals as goal

pub returns : goal.returns
returns c = search writes_then
