-- `written::corrections::put_parties205` meets its contract: fields 52A and 58A.
use Rattle.put.specs.Writes.{writes_then}
use Rattle.written.proofs.corrections.put_parties205.Goals as goal

pub returns : goal.returns
returns c = search writes_then
