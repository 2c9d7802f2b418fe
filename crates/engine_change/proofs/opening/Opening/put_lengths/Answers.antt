-- The currency, the lengths of both texts, and zeros where a third would stand.
use Rattle.rules.specs.Area.{lengths_of, length_record}
use Rattle.engine_change.specs.Header.{lengths}
use Rattle.engine_change.specs.Sets.{opening}
use borrow.Author.Rules.{rules}
use Rattle.engine_change.proofs.opening.Opening.put_lengths.Goals as goal

pub returns : goal.returns
unfolding lengths lengths_of length_record
returns c = search (opening, rules)
