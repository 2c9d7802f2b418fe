-- The position stands at the place of its key, or there is none.
use borrow.Author.Rules.{rules}
use Rattle.engine.specs.Records.{many}
use Rattle.engine.specs.Lookup.{looking}
use Rattle.engine.proofs.held.Engine.totals_of.Goals as goal

pub place_of-i-requires : goal.place_of-i-requires
place_of-i-requires c = many _ _ c.args.self.holds c.header-n.ensures

pub is_at-requires : goal.is_at-requires
is_at-requires c = search (looking, rules)

pub nth_position-requires-clause-i_bound : goal.nth_position-requires-clause-i_bound
nth_position-requires-clause-i_bound c = search (looking, rules)

pub returns-then-is_at : goal.returns-then-is_at
returns-then-is_at c = search (looking, rules)
