use Rattle.register_lines.specs.Forms.{line_rest}
use Rattle.register_lines.specs.Sets.{sectioning}
use borrow.Author.Rules.{rules}
use Rattle.register_lines.proofs.forms.lines_from.Goals as goal

pub returns-then-not-line_begins : goal.returns-then-not-line_begins
returns-then-not-line_begins g c = let u = line_rest _ _ _ g.met.F.LineForm.form c.args.text.now c.loop-i.place _ c.line_begins.ensures in search (sectioning, rules)

pub loop-i-preserved : goal.loop-i-preserved
loop-i-preserved g c =
    let f = g.met.F.LineForm.form in
    let u = line_rest _ _ _ f c.args.text.now c.loop-i.place _ c.line_begins.ensures in
    rw c.WIDTH.ensures (search (sectioning, rules))

pub returns : goal.returns
returns g c = search (sectioning, rules)
