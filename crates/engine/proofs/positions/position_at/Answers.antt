-- The key of a record and its two totals.
use borrow.Author.Rules.{rules}
use Rattle.engine.specs.Positions.{position_read}
use Rattle.engine.proofs.positions.position_at.Goals as goal

pub returns : goal.returns
returns c = position_read _ _ (search rules) (search rules) (search rules)
