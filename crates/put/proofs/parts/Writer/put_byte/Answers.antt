-- A byte within the output is stored; outside it nothing changes.
use native.Mathlib.Omega.{arith}
use mathlib.Core.Path.{◌∙◌, refl}
use Rattle.laws.specs.Writing.{stored, laid_outside}
use Rattle.put.proofs.parts.Writer.put_byte.Goals as goal

pub returns-then-self : goal.returns-then-self
returns-then-self c = record { same_reference = refl; wrote = stored _ _ _ c.if-self.true (omega arith) }

pub returns : goal.returns
returns c =
    let s : _ = c.step.ensures in
    record { same_reference = s.same_reference; wrote = record { cursor = s.cursor; output = s.output ∙ laid_outside _ _ _ c.if-self.false; short = omega arith } }
