-- `written::returns::put_return` meets its contract: the message's four groups of fields in their order.
use Rattle.rules.specs.Written.{return103}
use Rattle.put.specs.Writes.{writes_4}
use Rattle.written.proofs.returns.put_return.Goals as goal

pub returns : goal.returns
unfolding return103
returns c = search writes_4
