-- what code answers as an option, in the definitions' own
use Rattle.std.specs.Prelude.{Option, Some, None}
use Rattle.std.proofs.Math.Option as M

abbrev pub told : {A : Type 0} → Option A → M.Option A
told None = M.none
told (Some v) = M.some v
