-- An amount: levs, mark and decimals, one behind the other; behind the output it is measured.
use mathlib.Core.Path.{refl, ◌∙◌}
use native.Mathlib.Omega.{arith}
use Rattle.put.specs.Groups.{amount_measured, amount_wrote}
use Rattle.put.specs.Laying.{wrote_cut}
use Rattle.put.proofs.parts.Writer.put_amount.Goals as goal

pub returns-then-self : goal.returns-then-self
returns-then-self c = record {
  same_reference = c.step.ensures.same_reference;
  wrote = amount_measured _ _ _ c.width_levs-w.ensures.0 (omega arith) (omega arith) c.step.ensures.output c.step.ensures.cursor;
}

pub returns : goal.returns
returns c = record {
  same_reference = c.put_bytes.ensures.same_reference ∙ c.put_byte.ensures.same_reference ∙ c.put_levs.ensures.same_reference;
  wrote = amount_wrote _ _ _ c.width_levs-w.ensures.0 _ _ refl c.eight-d.ensures c.put_levs.ensures.wrote c.put_byte.ensures.wrote (wrote_cut _ _ _ c.put_bytes.ensures.wrote);
}
