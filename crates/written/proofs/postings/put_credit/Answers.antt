-- `written::postings::put_credit` meets its contract: credit and stotinki, a comma behind each.
use Rattle.put.specs.Writes.{writes_4}
use Rattle.written.proofs.postings.put_credit.Goals as goal

pub returns : goal.returns
returns g c = search writes_4
