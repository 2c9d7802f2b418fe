-- A number below 0 is a minus and its size, any other its digits.
use Rattle.commands.specs.Print.{print_below, print_above}
use Rattle.commands.proofs.print.put_signed.Goals as goal

pub returns-then-z-lt0 : goal.returns-then-z-lt0
returns-then-z-lt0 c = print_below _ c.ranges.z c.if-z-lt0.true c.put_byte.ensures (rw c.unsigned_abs.ensures.value at c.put_decimal.ensures)

pub returns : goal.returns
returns c = print_above _ c.ranges.z c.if-z-lt0.false (rw c.unsigned_abs-2.ensures.value at c.put_decimal-2.ensures)
