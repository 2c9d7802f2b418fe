-- The tests are those of the definition, and the closing line at the end, without which there is none.
use Rattle.std.proofs.Common.{rules}
use Rattle.lines.specs.Laws.{framing}
use Rattle.lines.proofs.frame.is_framed.Goals as goal

pub returns-then-in_lines : goal.returns-then-in_lines
returns-then-in_lines c = search (framing, rules)
