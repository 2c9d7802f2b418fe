-- `register::check::old_register_passes` meets its contract: the account lines counted fill the text.
use Rattle.register.specs.Sets.{checking}
use borrow.Author.Rules.{rules}
use Rattle.register.proofs.check.old_register_passes.Goals as goal

pub returns : goal.returns
returns c = search (checking, rules)
