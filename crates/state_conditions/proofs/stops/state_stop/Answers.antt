-- Each way out is the first of 11 to 15 that holds.
use Rattle.state_conditions.specs.Stops.{stops}
use borrow.Author.Rules.{rules}
use Rattle.state_conditions.proofs.stops.state_stop.Goals as goal

pub returns : goal.returns
returns c = search (stops, rules)
