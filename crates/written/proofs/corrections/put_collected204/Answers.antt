-- `written::corrections::put_collected204` meets its contract: fields 32B and 53A.
use Rattle.put.specs.Writes.{writes_then}
use Rattle.written.proofs.corrections.put_collected204.Goals as goal

pub returns : goal.returns
returns c = search writes_then
