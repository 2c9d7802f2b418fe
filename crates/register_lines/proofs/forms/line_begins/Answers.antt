-- `register_lines::forms::line_begins` meets its contract: where the text has a line's bytes, the line's own tests tell.
use Rattle.register_lines.specs.Forms.{line_roomed}
use Rattle.register_lines.proofs.forms.line_begins.Goals as goal

pub returns-then-rest-WIDTH : goal.returns-then-rest-WIDTH
returns-then-rest-WIDTH g c = line_roomed _ _ _ g.met.F.LineForm.form _ _ c.WIDTH-then-rest-WIDTH.ensures _ c.stands.ensures
