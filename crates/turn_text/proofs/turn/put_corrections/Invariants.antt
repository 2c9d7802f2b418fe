-- By the outgoing number as it is kept, the messages of the positions from the i-th on are left to write.
use Rattle.turn_text.specs.Turn.{CorrectionsLeft}
use Rattle.turn_text.proofs.turn.put_corrections.Given as goal

abbrev pub invariant-loop-i : goal.invariant-loop-i
invariant-loop-i l = CorrectionsLeft l.day l.n l.engine.area.now l.initial.w l.i l.outgoing l.w
