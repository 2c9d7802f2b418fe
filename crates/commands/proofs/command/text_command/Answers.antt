-- A command of one text: its length is read, and as many bytes stand behind the line.
use Rattle.commands.specs.Lines.{text_short}
use Rattle.commands.proofs.command.text_command.Goals as goal

pub returns-in_err-text : goal.returns-in_err-text
returns-in_err-text c = rw c.from_residual-in_err-text.ensures (text_short _ _ _ c.in_ok-n.ensures c.in_err-text.ensures.cases)
