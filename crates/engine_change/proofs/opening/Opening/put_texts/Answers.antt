-- The texts one behind the other, and zeros in the room that they leave.
use Rattle.engine_laws.specs.Sections.{text_part}
use Rattle.engine_change.specs.Sets.{opening}
use borrow.Author.Rules.{rules}
use Rattle.engine_change.proofs.opening.Opening.put_texts.Goals as goal

pub returns : goal.returns
unfolding text_part
returns c = search (opening, rules)
