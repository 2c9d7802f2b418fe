-- `message_text::verdicts::put_parts` meets its contract. The loop's invariant: the parts behind the first k are left to write.
use Rattle.position.specs.Values.{position_value}
use Rattle.message_text.specs.Parts.{PartsLeft}
use Rattle.message_text.proofs.verdicts.put_parts.Given as goal

abbrev pub invariant-loop-k : goal.invariant-loop-k
invariant-loop-k l = PartsLeft l.initial.o l.parts (position_value l.p) l.details.message.now l.details.kept.now l.initial.w l.k l.o l.i l.w
