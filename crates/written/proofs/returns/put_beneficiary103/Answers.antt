-- `written::returns::put_beneficiary103` meets its contract: fields 57D and 59, each a tag and the lines handed in.
use Rattle.put.specs.Writes.{writes_4}
use Rattle.written.proofs.returns.put_beneficiary103.Goals as goal

pub returns : goal.returns
returns c = search writes_4
