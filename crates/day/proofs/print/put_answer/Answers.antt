-- Number, comma, difference, end of line, and the bytes written, one behind the other.
use Rattle.put.specs.Writes.{writes_cut}
use Rattle.day.specs.Told.{answer_wrote}
use Rattle.day.proofs.print.put_answer.Goals as goal

pub returns : goal.returns
returns c = answer_wrote (c.args.a) _ c.requires.difference_bound c.put_decimal.ensures c.put_byte.ensures c.put_signed.ensures c.put_end.ensures (writes_cut _ _ _ c.put_bytes.ensures)
