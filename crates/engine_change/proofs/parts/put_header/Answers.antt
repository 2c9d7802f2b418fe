-- The header's numbers one behind the other.
use Rattle.engine_change.specs.Sets.{opening}
use borrow.Author.Rules.{rules}
use Rattle.engine_change.proofs.parts.put_header.Goals as goal

pub returns : goal.returns
returns c = search (opening, rules)
