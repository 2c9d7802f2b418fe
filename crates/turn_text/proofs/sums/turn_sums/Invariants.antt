-- What is left of the positions completes the sums.
use Prim.Native.Nat.{◌-◌}
use Rattle.turn_text.specs.Sums.{SumsLeft}
use Rattle.turn_text.proofs.sums.turn_sums.Given as goal

abbrev pub invariant-loop-i : goal.invariant-loop-i
invariant-loop-i l = SumsLeft l.engine.area.now l.i (l.n - l.i) l.n l.s
