-- A law for each way of the loop.
use Rattle.lines.specs.Seen.{none_handed, line_handed}
use Rattle.lines.proofs.frame.in_lines.Goals as goal

pub returns-then-is_none : goal.returns-then-is_none
returns-then-is_none c = let i = c.loop-reader.invariant in none_handed _ _ _ _ i.seeing i.text c.loop-reader-test.true _ c.next_line.ensures (c.if-is_none.ensures {u = tt})

pub loop-reader-preserved : goal.loop-reader-preserved
loop-reader-preserved c = let i = c.loop-reader.invariant in line_handed _ _ _ _ i.seeing i.text c.loop-reader-test.true _ c.next_line.ensures (c.if-is_none.ensures {u = tt})
