-- The last of the eight, or all of them behind the nulls.
use native.Mathlib.Omega.{arith}
use mathlib.Core.Path.{◌∙◌}
use Rattle.std.proofs.Common.{rules}
use Rattle.put.specs.Groups.{last_few, last_more}
use Rattle.put.specs.Laying.{wrote_cut}
use Rattle.put.proofs.parts.Writer.put_last.Goals as goal

pub returns-then-k-le8 : goal.returns-then-k-le8
returns-then-k-le8 c = record { same_reference = c.put_bytes.ensures.same_reference; wrote = last_few _ _ _ (omega arith) (wrote_cut _ _ _ c.put_bytes.ensures.wrote) }

pub returns : goal.returns
returns c = record {
  same_reference = c.put_bytes-2.ensures.same_reference ∙ c.put_same.ensures.same_reference;
  wrote = last_more _ _ _ (omega arith) (search rules) c.put_same.ensures.wrote c.put_bytes-2.ensures.wrote;
}
