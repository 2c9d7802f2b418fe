-- Each answer is that of the test.
use borrow.Author.Rules.{rules}
use Rattle.engine_change.specs.Filing.{place_filed}
use Rattle.engine_change.proofs.filing.reference_place.Goals as goal

pub returns : goal.returns
returns c = place_filed _ _ c.requires _ (λ i q h p. search rules) c.place_by.ensures
