-- A position's record, its key and its totals one behind the other.
use Rattle.engine_change.specs.Sets.{booking}
use borrow.Author.Rules.{rules}
use Rattle.engine_change.proofs.booking.put_position.Goals as goal

pub returns : goal.returns
returns c = search (booking, rules)
