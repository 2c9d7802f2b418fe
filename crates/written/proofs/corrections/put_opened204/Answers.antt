-- `written::corrections::put_opened204` meets its contract: first line and fields 20, 19, 30 in their order.
use Rattle.put.specs.Writes.{writes_4}
use Rattle.written.proofs.corrections.put_opened204.Goals as goal

pub returns : goal.returns
returns c = search writes_4
