use Rattle.std.proofs.Common.{length, ap, ◌∙◌}
use Rattle.register_lines.specs.Marks.{line_size}
use Rattle.register_lines.proofs.section.Section.repeats.Goals as goal

pub has_from-requires-clause-size : goal.has_from-requires-clause-size
has_from-requires-clause-size g c = ap length c.key.ensures ∙ line_size _ _ _ g.met.F.LineForm.form _ _ _ _ c.args.self.now.marked c.loop-i.i c.loop-i-test.true
