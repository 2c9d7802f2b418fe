use borrow.Author.Rules.{rules}
use Rattle.commands.specs.Seeking.{seek_on, seeking}
use Rattle.commands.proofs.window.idle_place.Goals as goal

pub returns-then-begins_as : goal.returns-then-begins_as
returns-then-begins_as c = search (seeking, rules)

pub loop-place-preserved : goal.loop-place-preserved
loop-place-preserved c = seek_on _ _ c.loop-place.invariant _ c.in-Some.is _ c.begins_as.ensures c.if-begins_as.false c.next_length-place.ensures
