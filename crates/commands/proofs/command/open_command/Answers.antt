-- An opening's command: day, comma, two lengths, and as many bytes behind the line.
use Rattle.commands.specs.Lines.{open_cut_behind, open_whole}
use Rattle.commands.proofs.command.open_command.Goals as goal

pub returns-in_err-holidays : goal.returns-in_err-holidays
returns-in_err-holidays c = rw c.from_residual-in_err-holidays.ensures (open_cut_behind _ _ c.in_ok-day.ensures.cases c.in_ok-sizes.ensures.cases c.in_ok-day-2.ensures c.in_ok-m.ensures c.in_ok-register.ensures.cases c.in_err-holidays.ensures.cases)

pub returns : goal.returns
returns c = open_whole _ _ c.in_ok-day.ensures.cases c.in_ok-sizes.ensures.cases c.in_ok-day-2.ensures c.in_ok-m.ensures c.in_ok-register.ensures.cases c.in_ok-holidays.ensures.cases
