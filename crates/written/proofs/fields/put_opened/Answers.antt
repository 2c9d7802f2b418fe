-- `written::fields::put_opened` meets its contract: type, BNBGBGSD between its commas, BIC and line end.
use Rattle.rules.specs.Written.{first_line}
use Rattle.put.specs.Writes.{writes_4}
use Rattle.written.proofs.fields.put_opened.Goals as goal

pub returns : goal.returns
unfolding first_line
returns c = search writes_4
