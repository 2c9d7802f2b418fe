-- A number between two powers of ten has one digit more than the lower one's exponent.
use mathlib.Core.Path.{refl}
use native.Mathlib.Omega.{arith}
use Rattle.laws.specs.Digits.{width_is, width_first}
use Rattle.put.proofs.groups.width_of.Goals as goal

pub returns-then-v-eq0 : goal.returns-then-v-eq0
returns-then-v-eq0 c = width_first _ _ (omega arith) refl

pub returns : goal.returns
returns c = width_is c.ilog10.result _ _ (omega arith) c.ilog10.ensures.power_le (omega arith) (omega arith)
