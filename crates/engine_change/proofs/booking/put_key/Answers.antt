-- A key's bytes, one part behind the other.
use Rattle.engine_change.specs.Sets.{booking}
use borrow.Author.Rules.{rules}
use Rattle.engine_change.proofs.booking.put_key.Goals as goal

pub returns : goal.returns
returns c = search (booking, rules)
