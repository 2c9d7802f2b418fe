-- `Section::is_key` meets its contract: bytes whose marks differ are not the same, and others are compared.
use Rattle.std.proofs.Common.{length, ap, sym, ◌∙◌}
use borrow.Author.Rules.{rules}
use Rattle.register_lines.specs.Marks.{line_size}
use Rattle.register_lines.specs.Sets.{marking}
use Rattle.register_lines.proofs.section.Section.is_key.Goals as goal

pub returns-then-self-i : goal.returns-then-self-i
returns-then-self-i g c = let f = g.met.F.LineForm.form in search (marking, rules)

pub equal_backward-requires : goal.equal_backward-requires
equal_backward-requires g c = c.requires.size ∙ sym (ap length c.key.ensures ∙ line_size _ _ _ g.met.F.LineForm.form _ _ _ _ c.args.self.now.marked c.args.i c.requires.listed)
