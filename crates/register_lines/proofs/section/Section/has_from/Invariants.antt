-- `Section::has_from` meets its contract. The loop's invariant: the key is one of those that are left where it is one of all.
use Rattle.std.specs.Prelude.{◌≡◌}
use Rattle.register_lines.specs.Places.{stands_in}
use Rattle.register_lines.proofs.section.Section.has_from.Given as goal

abbrev pub invariant-loop-i : goal.invariant-loop-i
invariant-loop-i g l = stands_in l.self.text.now g.F.LineForm.KEY g.F.LineForm.WIDTH l.key l.self.at l.i l.self.count ≡ stands_in l.self.text.now g.F.LineForm.KEY g.F.LineForm.WIDTH l.key l.self.at l.first l.self.count
