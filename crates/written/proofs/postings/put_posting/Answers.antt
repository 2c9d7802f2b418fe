-- `written::postings::put_posting` meets its contract: the line's three parts in their order.
use Rattle.rules.specs.Written.{posting}
use Rattle.put.specs.Writes.{writes_3}
use Rattle.written.proofs.postings.put_posting.Goals as goal

pub returns : goal.returns
unfolding posting
returns g c = search writes_3
