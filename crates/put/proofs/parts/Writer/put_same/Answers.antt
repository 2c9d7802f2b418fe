-- As many of the bytes as the output has room for.
use native.Mathlib.Omega.{arith}
use Rattle.std.proofs.Common.{rules}
use Rattle.put.specs.Laying.{fill_wrote, fill_behind}
use Rattle.put.proofs.parts.Writer.put_same.Goals as goal
use Rattle.put.proofs.parts.Writer.put_same.Goals.{then-self, else-self}

pub returns : goal.returns
returns c =
    elim c.if-self.branch [
      | then-self w ↦ let s : _ = rw w.self-is at c.step.ensures in record { same_reference = s.same_reference; wrote = fill_wrote _ _ _ w.min-m.ensures (omega arith) (omega arith) s.output (omega arith) (w.fill.ensures.after (λ y e. search rules)) s.cursor }
      | else-self w ↦ let s : _ = rw w.self-is at c.step.ensures in record { same_reference = s.same_reference; wrote = fill_behind _ _ w.if-self.false (omega arith) s.output s.cursor }
    ]
