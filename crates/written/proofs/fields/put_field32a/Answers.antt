-- `written::fields::put_field32a` meets its contract: tag, day, currency, amount and line end.
use Rattle.rules.specs.Written.{field32a}
use Rattle.put.specs.Writes.{writes_5}
use Rattle.written.proofs.fields.put_field32a.Goals as goal

pub returns : goal.returns
unfolding field32a
returns c = search writes_5
