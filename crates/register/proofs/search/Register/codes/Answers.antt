-- `Register::codes` meets its contract: what account lines leave of a text that passed are code lines.
use Rattle.register.specs.Sets.{seeking}
use borrow.Author.Rules.{rules}
use Rattle.register.proofs.search.Register.codes.Goals as goal

pub returns : goal.returns
returns c = search (seeking, rules)
