use native.Mathlib.Omega.{arith}
use Rattle.put.specs.Groups.{last_wrote}
use Rattle.put.proofs.parts.Writer.put_eight.Goals as goal

pub returns : goal.returns
returns c = record {
  same_reference = c.put_last.ensures.same_reference;
  wrote = last_wrote 10 48 c.args.k c.args.v c.eight-d.result c.eight-d.ensures (omega arith) c.put_last.ensures.wrote;
}
