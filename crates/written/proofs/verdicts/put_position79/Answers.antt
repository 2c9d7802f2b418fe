-- `written::verdicts::put_position79` meets its contract: the five rows in their order.
use Rattle.rules.specs.Written.{position79}
use Rattle.put.specs.Writes.{writes_5}
use Rattle.written.proofs.verdicts.put_position79.Goals as goal

pub returns : goal.returns
unfolding position79
returns c = writes_5 c.put_field.ensures c.put_field-2.ensures c.put_field-3.ensures (rw c.abs_diff-size.ensures at c.put_field-4.ensures) c.put_bytes.ensures
