-- `written::corrections::put_field72` meets its contract: the five rows in their order, RELREF with the position's own date.
use Rattle.rules.specs.Written.{field72}
use Rattle.put.specs.Writes.{writes_5}
use Rattle.written.proofs.corrections.put_field72.Goals as goal

pub returns : goal.returns
unfolding field72
returns c = writes_5 c.put_baeref_row.ensures c.put_field.ensures c.put_bytes.ensures c.put_field-2.ensures c.put_detailed_row.ensures
