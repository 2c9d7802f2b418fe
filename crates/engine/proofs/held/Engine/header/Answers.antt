-- The numbers of the header are those of the engine.
use borrow.Author.Rules.{rules}
use Rattle.engine.specs.Header.{heading}
use Rattle.engine.proofs.held.Engine.header.Goals as goal

pub header_at-requires : goal.header_at-requires
header_at-requires c = search (heading, rules)

pub returns : goal.returns
returns c = search (heading, rules)
