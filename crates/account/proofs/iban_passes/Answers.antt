-- `account::iban_passes` meets its contract: the shape, then the control.
use Rattle.rules.specs.Accounts.{passes}
use Rattle.laws.specs.Tests.{and_holds, and_failed}
use borrow.Author.Rules.{rules}
use Rattle.account.proofs.iban_passes.Goals as goal

pub returns-then-iban_shape : goal.returns-then-iban_shape
returns-then-iban_shape c = unfold passes in search (and_holds, rules)

pub returns-else-iban_shape : goal.returns-else-iban_shape
returns-else-iban_shape c = unfold passes in search (and_failed, rules)
