-- The bytes passed, before the first line of what is left, are the line.
use Rattle.std.proofs.Common.{◌≡◌, ◌+◌}
use Rattle.rules.specs.Lines.{lead, take_line}
use Rattle.laws.specs.Parts.{cut, from}
use Rattle.lines.proofs.line.next_line.Given as goal

abbrev pub invariant-loop-k : goal.invariant-loop-k
invariant-loop-k l = lead (cut l.s l.at (l.at + l.k)) (take_line (from l.s (l.at + l.k))) ≡ take_line (from l.s l.at)
