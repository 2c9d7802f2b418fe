-- `conditions::walk::appears_twice` meets its contract. The loop's invariant: what is left of the details gives the answer.
use Rattle.std.specs.Prelude.{◌≡◌, map, drop}
use Rattle.rules.specs.Text.{twice, equal}
use Rattle.conditions.specs.Walk.{named}
use Rattle.conditions.proofs.walk.appears_twice.Given as goal

abbrev pub invariant-loop-i : goal.invariant-loop-i
invariant-loop-i l = twice equal (map (named l.s) (drop l.i l.kept)) ≡ twice equal (map (named l.s) l.kept)
