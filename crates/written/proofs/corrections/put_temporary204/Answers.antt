-- `written::corrections::put_temporary204` meets its contract: field 58D's two lines and field 20.
use Rattle.put.specs.Writes.{writes_then}
use Rattle.written.proofs.corrections.put_temporary204.Goals as goal

pub returns : goal.returns
returns c = search writes_then
