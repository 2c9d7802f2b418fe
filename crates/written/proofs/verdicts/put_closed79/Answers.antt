-- `written::verdicts::put_closed79` meets its contract: part, slash, parts, line end and closing line.
use Rattle.rules.specs.Written.{closed79}
use Rattle.put.specs.Writes.{writes_4}
use Rattle.written.proofs.verdicts.put_closed79.Goals as goal

pub returns : goal.returns
unfolding closed79
returns c = search writes_4
