-- `written::corrections::put_mt204` meets its contract: the message's four groups of fields in their order.
use Rattle.rules.specs.Written.{mt204}
use Rattle.put.specs.Writes.{writes_4}
use Rattle.written.proofs.corrections.put_mt204.Goals as goal

pub returns : goal.returns
unfolding mt204
returns c = search writes_4
