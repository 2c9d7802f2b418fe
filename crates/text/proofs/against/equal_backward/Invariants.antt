-- `text::against::equal_backward` meets its contract. The loop's invariant: from k on both texts are equal.
use Rattle.std.proofs.Common.{◌≡◌, true}
use Rattle.rules.specs.Text.{equal}
use Rattle.laws.specs.Parts.{from}
use Rattle.text.proofs.against.equal_backward.Given as goal

abbrev pub invariant-loop-k : goal.invariant-loop-k
invariant-loop-k l = equal (from l.s l.k) (from l.t l.k) ≡ true
