-- `Older::put` meets its contract: all of the text but its last five bytes.
use Rattle.register_moves.specs.Texts.{writing}
use borrow.Author.Rules.{rules}
use Rattle.register_moves.proofs.older.OlderRegisterMove.put.Goals as goal

pub returns : goal.returns
returns c = search (writing, rules)
