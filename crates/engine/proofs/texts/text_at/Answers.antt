-- Text k begins behind those before it and is as long as the header says.
use borrow.Author.Rules.{rules}
use Rattle.engine.specs.Texts.{lettering}
use Rattle.engine.proofs.texts.text_at.Goals as goal

pub returns : goal.returns
returns c = search (lettering, rules)
