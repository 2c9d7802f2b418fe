use Rattle.account.specs.Control.{digits_carried}
use Rattle.account.proofs.control.with_digits.Goals as goal

pub returns : goal.returns
returns c = digits_carried _ _ _ c.requires.first c.requires.second
