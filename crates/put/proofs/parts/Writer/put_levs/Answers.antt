-- Levs above the last eight digits, and those among them.
use mathlib.Core.Path.{◌∙◌}
use native.Mathlib.Omega.{arith}
use Rattle.put.specs.Groups.{levs_few, levs_more}
use Rattle.put.specs.Laying.{wrote_cut}
use Rattle.put.proofs.parts.Writer.put_levs.Goals as goal

pub returns-then-w-le6 : goal.returns-then-w-le6
returns-then-w-le6 c = record { same_reference = c.put_bytes.ensures.same_reference; wrote = levs_few _ _ _ (omega arith) (wrote_cut _ _ _ c.put_bytes.ensures.wrote) }

pub returns : goal.returns
returns c = record {
  same_reference = c.put_bytes-2.ensures.same_reference ∙ c.put_fixed.ensures.same_reference;
  wrote = levs_more _ _ _ (omega arith) c.put_fixed.ensures.wrote (wrote_cut _ _ _ c.put_bytes-2.ensures.wrote);
}
