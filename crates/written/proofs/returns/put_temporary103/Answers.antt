-- `written::returns::put_temporary103` meets its contract: field 50K, and field 52D with characters 5 to 12 of the account.
use Rattle.put.specs.Writes.{writes_3}
use Rattle.written.proofs.returns.put_temporary103.Goals as goal

pub returns : goal.returns
returns c = search writes_3
