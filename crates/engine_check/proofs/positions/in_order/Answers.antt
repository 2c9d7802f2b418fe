-- Keys are compared as they were read.
use borrow.Author.Rules.{rules}
use Rattle.position.proofs.Keys.{comparing}
use Rattle.engine_check.specs.Read.{positions}
use Rattle.engine_check.proofs.positions.in_order.Goals as goal

pub returns : goal.returns
returns c = search (comparing, positions, rules)
