-- A length is one or more digits and at most 8192: what is read and the bytes behind it decide.
use Rattle.std.proofs.Common.{◌≡◌, ◌≤◌}
use Rattle.rules.specs.Replay.{length_of}
use Rattle.laws.specs.Parts.{from}
use Rattle.commands.specs.Numbers.{limited}
use Rattle.commands.proofs.number.read_length.Given as goal

abbrev pub invariant-loop-c : goal.invariant-loop-c
invariant-loop-c l = (l.n ≤ 8192) × (limited l.n (from l.part l.c-index) ≡ length_of l.part)
