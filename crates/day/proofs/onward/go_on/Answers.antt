-- By whether a command was read.
use borrow.Author.Rules.{rules}
use Rattle.day.specs.Onwards.{onward_answers}
use Rattle.day.proofs.onward.go_on.Goals as goal

pub returns-in-Some : goal.returns-in-Some
returns-in-Some c = onward_answers c.requires c.in-Some.ensures c.carry_out.ensures c.new-w.ensures.output c.new-w.ensures.place (search rules)
