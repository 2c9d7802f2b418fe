-- The register is text 0.
use borrow.Author.Rules.{rules}
use Rattle.engine.specs.Texts.{lettering, register_told}
use Rattle.engine.proofs.held.Engine.register.Goals as goal

pub text_at-requires-clause-text_room : goal.text_at-requires-clause-text_room
text_at-requires-clause-text_room c = search (lettering, rules)

pub passed-requires : goal.passed-requires
passed-requires c = (register_told _ c.args.self.holds c.text_at.ensures).passes

pub returns : goal.returns
returns c = register_told _ c.args.self.holds (rw (← c.passed.ensures) at c.text_at.ensures)
