-- A position has a place below 32.
use borrow.Author.Rules.{rules}
use Rattle.engine.specs.Lookup.{looking}
use Rattle.engine.proofs.held.Engine.position.Goals as goal

pub nth_position-requires-clause-i_bound : goal.nth_position-requires-clause-i_bound
nth_position-requires-clause-i_bound c = search (looking, rules)

pub nth_position-requires-clause-texts_place_in_bounds : goal.nth_position-requires-clause-texts_place_in_bounds
nth_position-requires-clause-texts_place_in_bounds c = search (looking, rules)
