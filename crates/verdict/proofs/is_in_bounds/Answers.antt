-- `verdict::is_in_bounds` meets its contract: the code is the number of the six digits behind `PAY`.
use Rattle.verdict.specs.Judging.{judging}
use borrow.Author.Rules.{rules}
use Rattle.verdict.proofs.is_in_bounds.Goals as goal

pub returns-then-low-code : goal.returns-then-low-code
returns-then-low-code c = search (judging, rules)
