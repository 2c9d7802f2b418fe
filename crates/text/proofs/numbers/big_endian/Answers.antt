use Rattle.std.proofs.Common.{rules}
use Rattle.text.specs.Placing.{placing}
use Rattle.text.proofs.numbers.big_endian.Goals as goal

pub loop-c-preserved : goal.loop-c-preserved
loop-c-preserved c = search (placing, rules)
