-- `written::corrections::put_mt205` meets its contract: the message's four groups of fields in their order.
use Rattle.rules.specs.Written.{mt205}
use Rattle.put.specs.Writes.{writes_4}
use Rattle.written.proofs.corrections.put_mt205.Goals as goal

pub returns : goal.returns
unfolding mt205
returns c = search writes_4
