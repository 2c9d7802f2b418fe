use borrow.Author.Rules.{rules}
use Rattle.banking_days.specs.Weekdays.{weekdays}
use Rattle.banking_days.proofs.weekday.days_before.Goals as goal

pub loop-m-init : goal.loop-m-init
loop-m-init c = search (weekdays, rules)

pub loop-m-preserved : goal.loop-m-preserved
loop-m-preserved c = search (weekdays, rules)
