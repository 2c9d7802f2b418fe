-- `Section::repeats` meets its contract. The loop's invariant: a key appears twice among those that are left where it does among all.
use Rattle.std.specs.Prelude.{◌≡◌}
use Rattle.register_lines.specs.Places.{repeat_in}
use Rattle.register_lines.proofs.section.Section.repeats.Given as goal

abbrev pub invariant-loop-i : goal.invariant-loop-i
invariant-loop-i g l = repeat_in l.self.text.now g.F.LineForm.KEY g.F.LineForm.WIDTH l.self.at l.i l.self.count ≡ repeat_in l.self.text.now g.F.LineForm.KEY g.F.LineForm.WIDTH l.self.at 0 l.self.count
