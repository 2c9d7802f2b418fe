use Rattle.engine_check.specs.Zeros.{eight_ored}
use Rattle.engine_check.proofs.header.eight_zero.Goals as goal

pub returns : goal.returns
returns c = eight_ored _ c.told-eight
