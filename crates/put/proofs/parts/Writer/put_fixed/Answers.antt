-- Digits behind the output are measured; else the upper ones are those of the quotient, and the last eight those of the rest.
use mathlib.Core.Path.{refl, ◌∙◌}
use native.Mathlib.Omega.{arith}
use Rattle.laws.specs.Digits.{places_length}
use Rattle.put.specs.Groups.{group_wrote, low_wrote}
use Rattle.put.specs.Laying.{wrote_behind}
use Rattle.put.proofs.parts.Writer.put_fixed.Goals as goal

pub returns-then-self : goal.returns-then-self
returns-then-self c = record {
  same_reference = c.step.ensures.same_reference;
  wrote = wrote_behind _ (omega arith) (omega arith) c.step.ensures.output (rw places_length c.step.ensures.cursor);
}

pub returns-then-k-le8 : goal.returns-then-k-le8
returns-then-k-le8 c = record { same_reference = c.put_eight-then-k-le8.ensures.same_reference; wrote = low_wrote _ _ _ refl (omega arith) c.put_eight-then-k-le8.ensures.wrote }

pub returns : goal.returns
returns c = record {
  same_reference = c.put_eight-2.ensures.same_reference ∙ c.put_sixteen.ensures.same_reference;
  wrote = group_wrote _ _ _ _ (omega arith) refl refl c.put_sixteen.ensures.wrote c.put_eight-2.ensures.wrote;
}
