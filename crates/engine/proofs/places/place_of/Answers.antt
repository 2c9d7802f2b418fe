-- Each answer is that of the test.
use borrow.Author.Rules.{rules}
use Rattle.engine.specs.Records.{place_told}
use Rattle.engine.proofs.places.place_of.Goals as goal

pub returns : goal.returns
returns c = place_told _ _ _ c.requires (λ i q h p. search rules) c.place_by.ensures
