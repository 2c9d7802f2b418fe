-- `written::fields::put_temporary_field` meets its contract: the account's field, and the line with its name.
use Rattle.rules.specs.Written.{temporary_field}
use Rattle.put.specs.Writes.{writes_then}
use Rattle.written.proofs.fields.put_temporary_field.Goals as goal

pub returns : goal.returns
unfolding temporary_field
returns c = search writes_then
