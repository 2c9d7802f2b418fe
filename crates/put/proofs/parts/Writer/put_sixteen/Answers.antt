-- Two groups of digits: those of the quotient above, those of the rest below.
use mathlib.Core.Path.{refl, ◌∙◌}
use native.Mathlib.Omega.{arith}
use Rattle.put.specs.Groups.{group_wrote, low_wrote}
use Rattle.put.proofs.parts.Writer.put_sixteen.Goals as goal

pub returns-then-k-le8 : goal.returns-then-k-le8
returns-then-k-le8 c = record { same_reference = c.put_eight-then-k-le8.ensures.same_reference; wrote = low_wrote _ _ _ refl (omega arith) c.put_eight-then-k-le8.ensures.wrote }

pub returns : goal.returns
returns c = record {
  same_reference = c.put_eight-3.ensures.same_reference ∙ c.put_eight-2.ensures.same_reference;
  wrote = group_wrote _ _ _ _ (omega arith) refl refl c.put_eight-2.ensures.wrote c.put_eight-3.ensures.wrote;
}
