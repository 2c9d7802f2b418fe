-- A reference: day, `GA` and number, one behind the other.
use Rattle.rules.specs.Written.{reference}
use Rattle.put.specs.Writes.{writes_3}
use Rattle.written.proofs.shown.ReferenceShown.put.Goals as goal

pub returns : goal.returns
unfolding reference
returns c = search writes_3
