-- The bytes of a number are the last of its eight.
use native.Mathlib.Omega.{arith}
use mathlib.Core.Path.{◌∙◌}
use Rattle.put.specs.Groups.{last_wrote, be_bytes}
use Rattle.put.proofs.parts.Writer.put_be.Goals as goal

pub returns : goal.returns
returns c = record {
  same_reference = c.put_last.ensures.same_reference;
  wrote = last_wrote 256 0 c.args.k c.args.v c.to_be_bytes.result (c.to_be_bytes.ensures ∙ be_bytes _ (omega arith)) (omega arith) c.put_last.ensures.wrote;
}
