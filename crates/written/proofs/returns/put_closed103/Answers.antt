-- `written::returns::put_closed103` meets its contract: fields 70, 71A and 72, and the closing line.
use Rattle.put.specs.Writes.{writes_4}
use Rattle.written.proofs.returns.put_closed103.Goals as goal

pub returns : goal.returns
returns c = search writes_4
