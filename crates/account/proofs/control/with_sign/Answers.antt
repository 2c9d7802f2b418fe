-- `account::control::with_sign` meets its contract: a letter or digit up to 57 is a digit, any other a letter.
use Rattle.account.specs.Control.{controls}
use borrow.Author.Rules.{rules}
use Rattle.account.proofs.control.with_sign.Goals as goal

pub returns : goal.returns
returns c = search (controls, rules)
