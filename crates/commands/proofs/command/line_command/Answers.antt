-- The line's letter says which command it is.
use Rattle.laws.specs.Slices.{rest_whole}
use Rattle.commands.specs.Lines.{by_text}
use Rattle.commands.proofs.command.line_command.Goals as goal

pub returns-in-Some : goal.returns-in-Some
returns-in-Some c = by_text _ _ c.in-Some.ensures (rw rest_whole at c.text_command.ensures)
