-- `message_text::returns::put_returns` meets its contract. The loop's invariant: the returns from detail j on are left to write.
use Rattle.message_text.specs.Returns.{ReturnsLeft}
use Rattle.message_text.proofs.returns.put_returns.Given as goal

abbrev pub invariant-loop-j : goal.invariant-loop-j
invariant-loop-j l = ReturnsLeft l.initial.o l.book l.register.text.now l.details.message.now l.details.kept.now l.initial.w l.j-index l.o l.w
