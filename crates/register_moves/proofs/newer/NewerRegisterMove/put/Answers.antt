-- `Newer::put` meets its contract: the text, and the last line behind it.
use Rattle.register_moves.specs.Texts.{writing}
use borrow.Author.Rules.{rules}
use Rattle.register_moves.proofs.newer.NewerRegisterMove.put.Goals as goal

pub returns : goal.returns
returns c = search (writing, rules)
