-- `account::control::iban_control` meets its contract: the head behind the rest makes the whole number, then the control digits are compared with their bounds.
use Rattle.account.specs.Control.{parts_not, parts_low, parts_high}
use Rattle.account.proofs.control.iban_control.Goals as goal

pub returns-then-tail-digits-ne1 : goal.returns-then-tail-digits-ne1
returns-then-tail-digits-ne1 c = parts_not _ c.requires _ _ _ c.bank.ensures c.with_branch.ensures c.with_account-tail.ensures c.if-tail-digits-ne1.true

pub returns-then-digits-lt2 : goal.returns-then-digits-lt2
returns-then-digits-lt2 c = parts_low _ c.requires _ _ _ c.bank.ensures c.with_branch.ensures c.with_account-tail.ensures c.if-tail-digits-ne1.false c.if-digits-lt2.true

pub returns : goal.returns
returns c = parts_high _ c.requires _ _ _ c.bank.ensures c.with_branch.ensures c.with_account-tail.ensures c.if-tail-digits-ne1.false c.if-digits-lt2.false
