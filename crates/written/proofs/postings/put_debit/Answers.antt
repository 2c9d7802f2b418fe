-- `written::postings::put_debit` meets its contract: day and debit, a comma behind each.
use Rattle.put.specs.Writes.{writes_4}
use Rattle.written.proofs.postings.put_debit.Goals as goal

pub returns : goal.returns
returns g c = search writes_4
