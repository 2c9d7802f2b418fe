-- `text::numbers::small_value` meets its contract. The loop's invariant: the number so far, with the digits that are left behind it, is the number of all.
use Rattle.text.specs.Placing.{Digits}
use Rattle.text.proofs.numbers.small_value.Given as goal

abbrev pub invariant-loop-c : goal.invariant-loop-c
invariant-loop-c l = Digits l.s l.c-index l.v
