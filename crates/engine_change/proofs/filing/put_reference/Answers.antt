-- A reference's record, sender and text one behind the other.
use Rattle.rules.specs.Area.{reference_record}
use Rattle.engine_change.specs.Sets.{booking}
use borrow.Author.Rules.{rules}
use Rattle.engine_change.proofs.filing.put_reference.Goals as goal

pub returns : goal.returns
unfolding reference_record
returns c = search (booking, rules)
