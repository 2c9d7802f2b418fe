use Rattle.account.specs.Control.{account_carried}
use Rattle.account.proofs.control.with_account.Goals as goal

pub returns : goal.returns
returns c = account_carried _ c.requires.shape _ _ _ _ _ c.with_signs-two.ensures c.with_signs-four.ensures c.with_signs-six.ensures c.with_signs.ensures
