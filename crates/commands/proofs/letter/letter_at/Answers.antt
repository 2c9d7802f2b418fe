use borrow.Author.Rules.{rules}
use Rattle.commands.specs.Letters.{letters}
use Rattle.commands.proofs.letter.letter_at.Goals as goal

pub returns-then-begins : goal.returns-then-begins
returns-then-begins c = search (letters, rules)

pub returns-then-begins-2 : goal.returns-then-begins-2
returns-then-begins-2 c = search (letters, rules)

pub returns-then-begins-3 : goal.returns-then-begins-3
returns-then-begins-3 c = search (letters, rules)

pub returns : goal.returns
returns c = search (letters, rules)
