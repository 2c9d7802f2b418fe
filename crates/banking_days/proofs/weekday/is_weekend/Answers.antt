-- `banking_days::weekday::is_weekend` meets its contract: by seven, the days to a Saturday leave 0 and to a Sunday 1.
use Rattle.banking_days.specs.Weekdays.{weekdays}
use borrow.Author.Rules.{rules}
use Rattle.banking_days.proofs.weekday.is_weekend.Goals as goal

pub days_to-requires : goal.days_to-requires
days_to-requires c = search (weekdays, rules)

pub returns : goal.returns
returns c = search (weekdays, rules)
