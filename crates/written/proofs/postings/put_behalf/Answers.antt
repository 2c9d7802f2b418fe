-- `written::postings::put_behalf` meets its contract: bank, comma, centralisation date and line end.
use Rattle.put.specs.Writes.{writes_4}
use Rattle.written.proofs.postings.put_behalf.Goals as goal

pub returns : goal.returns
returns c = search writes_4
