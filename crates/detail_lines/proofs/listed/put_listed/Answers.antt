use Rattle.detail_lines.specs.Listed.{rows_more, rows_pass}
use Rattle.detail_lines.proofs.listed.put_listed.Goals as goal
use Rattle.detail_lines.proofs.listed.put_listed.Goals.{then-is_listed, else-is_listed}

pub loop-i-preserved : goal.loop-i-preserved
loop-i-preserved c = elim c.if-is_listed.branch [
  | then-is_listed w ↦ rw (w.left-is, w.w-is) (rows_more _ _ c.requires.lines_in c.loop-i.invariant c.loop-i-test.true _ _ (rw c.verdict.ensures.kept at c.is_listed.ensures) w.if-is_listed.true c.if-left-eq0.false (rw (w.of.ensures, w.of-then-is_listed.ensures, w.of-then-is_listed-2.ensures) at w.put_listed_rows.ensures))
  | else-is_listed w ↦ rw (w.left-is, w.w-is) (rows_pass _ _ c.requires.lines_in c.loop-i.invariant c.loop-i-test.true _ _ (rw c.verdict.ensures.kept at c.is_listed.ensures) w.if-is_listed.false)
]
