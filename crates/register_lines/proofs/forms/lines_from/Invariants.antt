-- `register_lines::forms::lines_from` meets its contract. The loop's invariant: the lines counted and those from its place on are all.
use Rattle.register_lines.specs.Counts.{Counting}
use Rattle.register_lines.proofs.forms.lines_from.Given as goal

abbrev pub invariant-loop-i : goal.invariant-loop-i
invariant-loop-i g l = Counting g.F.LineForm.standing g.F.LineForm.WIDTH l.text l.at l.i l.place
