-- The loop's invariant: the pairs that are left decide.
use Rattle.std.specs.Prelude.{◌≡◌, ◌-◌, drop}
use Rattle.references.specs.Slashes.{doubled}
use Rattle.references.proofs.has_double.Given as goal

abbrev pub invariant-loop-k : goal.invariant-loop-k
invariant-loop-k l = doubled (drop (l.k - 1) l.reference) ≡ doubled l.reference
