use Rattle.account.specs.Control.{bank_carried}
use Rattle.account.proofs.control.bank.Goals as goal

pub returns : goal.returns
returns c = bank_carried _ c.requires _ _ c.with_signs.ensures c.with_signs-2.ensures
