-- The card's answer is that of the call on the engine.
use Rattle.day.specs.Told.{told_call}
use Rattle.day.proofs.call.perform.Goals as goal

pub returns : goal.returns
returns c = told_call _ c.requires _ c.call_card-number.ensures
