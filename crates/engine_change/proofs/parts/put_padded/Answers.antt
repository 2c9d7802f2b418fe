-- A part of a text and the zeros behind it.
use Rattle.engine_change.specs.Sets.{opening}
use borrow.Author.Rules.{rules}
use Rattle.engine_change.proofs.parts.put_padded.Goals as goal

pub returns : goal.returns
returns c = search (opening, rules)
