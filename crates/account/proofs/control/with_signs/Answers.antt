use Rattle.account.specs.Control.{signs_carried}
use Rattle.account.proofs.control.with_signs.Goals as goal

pub returns : goal.returns
returns c = signs_carried _ _ _ _ _ _ _ c.with_sign.ensures c.with_sign-2.ensures
