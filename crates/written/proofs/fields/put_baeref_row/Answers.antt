-- `written::fields::put_baeref_row` meets its contract: tag, day, number and line end.
use Rattle.rules.specs.Written.{baeref_row}
use Rattle.put.specs.Writes.{writes_4}
use Rattle.written.proofs.fields.put_baeref_row.Goals as goal

pub returns : goal.returns
unfolding baeref_row
returns c = search writes_4
