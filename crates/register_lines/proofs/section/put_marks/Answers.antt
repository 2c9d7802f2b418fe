use borrow.Author.Rules.{rules}
use Rattle.register_lines.specs.Sets.{marking}
use Rattle.register_lines.proofs.section.put_marks.Goals as goal

pub loop-i-preserved : goal.loop-i-preserved
loop-i-preserved g c = let f = g.met.F.LineForm.form in let m = rw c.KEY.ensures at c.mark_of.ensures in rw c.WIDTH.ensures (search (marking, rules))
