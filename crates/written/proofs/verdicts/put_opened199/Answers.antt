-- `written::verdicts::put_opened199` meets its contract: first line, field 20 and field 21 in their order.
use Rattle.put.specs.Writes.{writes_3}
use Rattle.written.proofs.verdicts.put_opened199.Goals as goal

pub returns : goal.returns
returns c = search writes_3
