use Rattle.put.specs.Writes.{writes_then}
use Rattle.put.proofs.parts.Writer.put_end.Goals as goal

pub returns : goal.returns
returns c = writes_then c.put_byte.ensures c.put_byte-2.ensures
