-- The two numbers of a key.
use borrow.Author.Rules.{rules}
use Rattle.engine.specs.Positions.{key_read}
use Rattle.engine.proofs.positions.key_at.Goals as goal

pub returns : goal.returns
returns c = key_read _ _ (search rules) (search rules)
