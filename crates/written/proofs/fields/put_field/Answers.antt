-- `written::fields::put_field` meets its contract: tag, the value's text and line end.
use Rattle.rules.specs.Written.{field}
use Rattle.put.specs.Writes.{writes_3}
use Rattle.written.proofs.fields.put_field.Goals as goal

pub returns : goal.returns
unfolding field
returns g c = search writes_3
