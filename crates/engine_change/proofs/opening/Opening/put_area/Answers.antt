-- The parts of an opened engine's area one behind the other.
use Rattle.engine_change.specs.Sets.{opening}
use borrow.Author.Rules.{rules}
use Rattle.engine_change.proofs.opening.Opening.put_area.Goals as goal

pub returns : goal.returns
returns c = search (opening, rules)
