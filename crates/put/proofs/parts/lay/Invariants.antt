-- The bytes before k are those of src.
use Rattle.std.specs.Prelude.{◌≡◌, take}
use Rattle.put.proofs.parts.lay.Given as goal

abbrev pub invariant-loop-k : goal.invariant-loop-k
invariant-loop-k l = take l.k l.out ≡ take l.k l.src
