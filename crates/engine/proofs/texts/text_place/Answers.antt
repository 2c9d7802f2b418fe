use borrow.Author.Rules.{rules}
use Rattle.engine.specs.Texts.{lettering}
use Rattle.engine.proofs.texts.text_place.Goals as goal

pub loop-i-init : goal.loop-i-init
loop-i-init c = search (lettering, rules)

pub loop-i-preserved : goal.loop-i-preserved
loop-i-preserved c = search (lettering, rules)
