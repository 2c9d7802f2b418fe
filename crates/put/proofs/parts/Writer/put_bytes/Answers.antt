-- As much of the bytes as the output has room for.
use native.Mathlib.Omega.{arith}
use Rattle.put.specs.Laying.{part_wrote, wrote_behind}
use Rattle.put.proofs.parts.Writer.put_bytes.Goals as goal
use Rattle.put.proofs.parts.Writer.put_bytes.Goals.{then-self+else-src-self, else-self}

pub returns : goal.returns
returns c =
    elim c.if-self.branch [
      | then-self+else-src-self w ↦ let s : _ = rw w.self-is at c.step.ensures in record { same_reference = s.same_reference; wrote = part_wrote _ _ w.min-n.ensures (omega arith) (omega arith) s.output (omega arith) w.lay.ensures s.cursor }
      | else-self w ↦ let s : _ = rw w.self-is at c.step.ensures in record { same_reference = s.same_reference; wrote = wrote_behind _ w.if-self.false (omega arith) s.output s.cursor }
    ]
