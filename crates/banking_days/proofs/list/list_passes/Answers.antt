-- `banking_days::list::list_passes` meets its contract: 60 dates take 419 bytes, so a list of no more passes where its dates rise.
use Rattle.banking_days.specs.Rising.{rises}
use borrow.Author.Rules.{rules}
use Rattle.banking_days.proofs.list.list_passes.Goals as goal

pub returns-then-list-gt-LONGEST : goal.returns-then-list-gt-LONGEST
returns-then-list-gt-LONGEST c = search (rises, rules)
