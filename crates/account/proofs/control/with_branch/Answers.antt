use Rattle.account.specs.Control.{branch_carried}
use Rattle.account.proofs.control.with_branch.Goals as goal

pub returns : goal.returns
returns c = branch_carried _ c.requires.shape _ _ _ _ _ _ _ c.with_digits-two.ensures c.with_digits-four.ensures c.with_digits.ensures
