-- The reader stands behind the lines seen; what is left grows less.
use Rattle.std.proofs.Common.{◌-◌, length}
use Rattle.lines.specs.Seen.{Sees}
use Rattle.lines.proofs.frame.in_lines.Given as goal

abbrev pub invariant-loop-reader : goal.invariant-loop-reader
invariant-loop-reader l = Sees l.s l.last l.reader

abbrev pub decreases-loop-reader : goal.decreases-loop-reader
decreases-loop-reader l = length l.s - l.reader.at
