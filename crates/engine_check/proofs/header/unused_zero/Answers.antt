-- The currency, then the lengths behind those of the texts.
use Rattle.std.proofs.Common.{arith}
use Rattle.std.proofs.lemmas.Bool.Decides.{nat_tests}
use Rattle.engine_check.specs.Zeros.{zeros_part}
use Rattle.engine_check.proofs.header.unused_zero.Goals as goal

pub returns-then-all_zero : goal.returns-then-all_zero
returns-then-all_zero c = let y = zeros_part c.args.area.now 9 10 (omega arith) c.all_zero.ensures in let z = zeros_part c.args.area.now 14 16 (omega arith) c.all_zero-then-all_zero.ensures in grind (arith, nat_tests, y, z)

pub returns-else-all_zero : goal.returns-else-all_zero
returns-else-all_zero c = let y = zeros_part c.args.area.now 9 10 (omega arith) c.all_zero.ensures in grind (arith, nat_tests, y)
