use Rattle.laws.specs.Writing.{zeros_wrote}
use Rattle.put.proofs.parts.Writer.put_zeros.Goals as goal

pub returns : goal.returns
returns c = record { same_reference = c.put_same.ensures.same_reference; wrote = zeros_wrote _ c.put_same.ensures.wrote }
