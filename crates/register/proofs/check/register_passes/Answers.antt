-- `register::check::register_passes` meets its contract: the lines counted are those that the tests at the places count, and the last line is all that is left behind them.
use Rattle.register.specs.Sets.{checking}
use borrow.Author.Rules.{rules}
use Rattle.register.proofs.check.register_passes.Goals as goal

pub returns-then-not-equal : goal.returns-then-not-equal
returns-then-not-equal c = search (checking, rules)

pub returns : goal.returns
returns c = search (checking, rules)
