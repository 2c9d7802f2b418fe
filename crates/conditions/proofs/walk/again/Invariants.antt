-- `conditions::walk::again` meets its contract. The loop's invariant: what is left of the others gives the answer.
use Rattle.std.specs.Prelude.{◌≡◌, map, drop}
use Rattle.rules.specs.Text.{any, equal}
use Rattle.conditions.specs.Walk.{named}
use Rattle.conditions.proofs.walk.again.Given as goal

abbrev pub invariant-loop-other : goal.invariant-loop-other
invariant-loop-other l = any (equal (named l.s l.one)) (map (named l.s) (drop l.other-index l.others)) ≡ any (equal (named l.s l.one)) (map (named l.s) l.others)
