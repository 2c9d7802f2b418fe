-- Behind the digits at p stands the end, a comma or another byte, and only behind a comma a length may follow.
use borrow.Author.Rules.{rules}
use Rattle.commands.specs.Seeking.{seeking, next_end, next_none}
use Rattle.commands.proofs.window.next_length.Goals as goal
use Rattle.commands.proofs.window.next_length.Goals.{else-e-w-via-then-e-w+else-w-e-eq44, else-e-w-via-else-e-w}

pub returns-then-w-e-eq44 : goal.returns-then-w-e-eq44
returns-then-w-e-eq44 c = search (seeking, rules)

pub returns : goal.returns
returns c =
    elim c.else-e-w.branch [
      | else-e-w-via-then-e-w+else-w-e-eq44 w ↦ next_none _ _ _ c.requires c.leading.ensures.count w.if-e-w.true w.if-w-e-eq44.false
      | else-e-w-via-else-e-w w ↦ next_end _ _ _ c.requires c.leading.ensures.count w.if-e-w.false
    ]
