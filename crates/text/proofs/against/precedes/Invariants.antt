-- The loop's invariant: what is left of both decides.
use Rattle.std.specs.Prelude.{◌≡◌, drop}
use Rattle.rules.specs.Text.{text_before}
use Rattle.text.proofs.against.precedes.Given as goal

abbrev pub invariant-loop-k : goal.invariant-loop-k
invariant-loop-k l = text_before (drop l.k l.s) (drop l.k l.t) ≡ text_before l.s l.t
