-- `text::classes::is_all` meets its contract: each byte is tested.
use Rattle.std.proofs.Common.{rules, ◌∙◌}
use Rattle.std.proofs.lemmas.Iterator.{YieldsList-from_slice}
use Rattle.std.proofs.lemmas.Iterator.Search.{all_from_yields_List}
use Rattle.laws.specs.Front.{all_every}
use Rattle.text.proofs.classes.is_all.Goals as goal

pub returns : goal.returns
returns g c = all_from_yields_List g.C.Class.test _ _ _ c.all.ensures.ran (YieldsList-from_slice c.args.s.now cc) (λ x b q k. search rules) ∙ all_every g.C.Class.test c.args.s.now
