-- `written::corrections::put_detailed_row` meets its contract: the row and the closing line.
use Rattle.put.specs.Writes.{writes_then}
use Rattle.written.proofs.corrections.put_detailed_row.Goals as goal

pub returns : goal.returns
returns c = search writes_then
