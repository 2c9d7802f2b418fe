-- `text::numbers::big_endian` meets its contract. The loop's invariant: the number so far, with the bytes that are left behind it, is the number of all.
use Rattle.text.specs.Placing.{Bytes}
use Rattle.text.proofs.numbers.big_endian.Given as goal

abbrev pub invariant-loop-c : goal.invariant-loop-c
invariant-loop-c l = Bytes l.s l.c-index l.v
