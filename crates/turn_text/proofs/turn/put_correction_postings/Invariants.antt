-- The posting lines of the positions from the i-th on are left to write.
use Rattle.turn_text.specs.Turn.{PostingsLeft}
use Rattle.turn_text.proofs.turn.put_correction_postings.Given as goal

abbrev pub invariant-loop-i : goal.invariant-loop-i
invariant-loop-i l = PostingsLeft l.day l.temporary l.engine.area.now l.n l.initial.w l.i l.w
