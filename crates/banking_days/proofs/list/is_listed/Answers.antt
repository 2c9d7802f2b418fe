-- `banking_days::list::is_listed` meets its contract: the dates of a list that passes stand seven bytes apart, each as the six digits of its number.
use Rattle.put.specs.Writes.{wrote_at}
use Rattle.banking_days.specs.Seeking.{seeks, listed_by}
use borrow.Author.Rules.{rules}
use Rattle.banking_days.proofs.list.is_listed.Goals as goal

pub returns-then-list-gt-LONGEST : goal.returns-then-list-gt-LONGEST
returns-then-list-gt-LONGEST c = search (seeks, rules)

pub returns : goal.returns
returns c = listed_by _ _ _ c.requires (wrote_at c.put_fixed.ensures c.new-w.ensures.output c.new-w.ensures.place (search rules)) (search rules) c.stands_in.ensures
