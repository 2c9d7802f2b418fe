-- `written::corrections::put_opened205` meets its contract: first line and fields 20, 21 in their order.
use Rattle.put.specs.Writes.{writes_3}
use Rattle.written.proofs.corrections.put_opened205.Goals as goal

pub returns : goal.returns
returns c = search writes_3
