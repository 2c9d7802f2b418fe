-- `verdict::by_code` meets its contract: only a verdict that returns the detail asks for the code, and it stays where none is found.
use Rattle.verdict.specs.Judging.{judging}
use borrow.Author.Rules.{rules}
use Rattle.verdict.proofs.by_code.Goals as goal

pub returns-in-Some : goal.returns-in-Some
returns-in-Some c = search (judging, rules)
