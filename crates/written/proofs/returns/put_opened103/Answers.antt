-- `written::returns::put_opened103` meets its contract: first line and fields 20, 23B, 32A in their order, 32A with the day.
use Rattle.put.specs.Writes.{writes_4}
use Rattle.written.proofs.returns.put_opened103.Goals as goal

pub returns : goal.returns
returns c = writes_4 c.put_opened.ensures c.put_field.ensures c.put_bytes.ensures c.put_field32a.ensures
