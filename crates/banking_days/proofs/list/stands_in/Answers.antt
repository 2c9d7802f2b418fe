use Rattle.std.proofs.Common.{◌≡◌, ◌+◌, ◌*◌, arith}
use borrow.Author.Rules.{rules}
use Rattle.banking_days.specs.Seeking.{stands_on}
use Rattle.banking_days.proofs.list.stands_in.Goals as goal

pub loop-k-preserved : goal.loop-k-preserved
loop-k-preserved c = let e : 7 * (c.loop-k.k + 1) ≡ 7 * c.loop-k.k + 7 = omega arith in rw e (stands_on _ _ _ _ c.loop-k.invariant (omega arith) _ c.equal.ensures (search rules))
