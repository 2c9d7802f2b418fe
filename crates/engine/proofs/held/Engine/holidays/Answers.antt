-- The holiday list is text 1.
use borrow.Author.Rules.{rules}
use Rattle.engine.specs.Texts.{lettering}
use Rattle.engine.proofs.held.Engine.holidays.Goals as goal

pub text_at-requires-clause-text_room : goal.text_at-requires-clause-text_room
text_at-requires-clause-text_room c = search (lettering, rules)

pub returns : goal.returns
returns c = search (lettering, rules)
