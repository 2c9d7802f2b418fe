-- `register_lines::section::put_marks` meets its contract. The loop's invariant: the lines before its place have their marks.
use Rattle.register_lines.specs.Marks.{Making}
use Rattle.register_lines.proofs.section.put_marks.Given as goal

abbrev pub invariant-loop-i : goal.invariant-loop-i
invariant-loop-i g l = Making g.F.LineForm.WIDTH g.F.LineForm.KEY l.text l.at l.n l.i l.place l.marks
