-- All of the bytes.
use native.Mathlib.Omega.{arith}
use mathlib.Core.Path.{refl}
use Rattle.put.specs.Laying.{whole_wrote}
use Rattle.put.proofs.parts.Writer.put_whole.Goals as goal

pub returns : goal.returns
returns c = record { same_reference = refl; wrote = whole_wrote _ _ c.requires (omega arith) refl (omega arith) c.lay.ensures refl }
