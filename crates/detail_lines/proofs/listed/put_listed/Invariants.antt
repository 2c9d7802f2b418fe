-- `detail_lines::listed::put_listed` meets its contract. The loop's invariant: the rows of the listed from detail i on are left to write, `left` of them at most.
use Rattle.detail_lines.specs.Listed.{RowsLeft}
use Rattle.detail_lines.proofs.listed.put_listed.Given as goal

abbrev pub invariant-loop-i : goal.invariant-loop-i
invariant-loop-i l = RowsLeft l.s l.kept l.first l.most l.initial.w l.i l.left l.w
