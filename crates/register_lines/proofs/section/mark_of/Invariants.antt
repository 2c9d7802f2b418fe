-- `register_lines::section::mark_of` meets its contract. The loop's invariant: the mark of the bytes read, and the rest decides.
use Rattle.register_lines.specs.Marks.{Marking}
use Rattle.register_lines.proofs.section.mark_of.Given as goal

abbrev pub invariant-loop-c : goal.invariant-loop-c
invariant-loop-c l = Marking l.key l.c-index l.mark
