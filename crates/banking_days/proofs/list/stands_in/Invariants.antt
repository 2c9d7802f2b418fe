-- The bytes are one of the dates that are left where they are one of all.
use Rattle.std.proofs.Common.{◌≡◌, ◌*◌}
use Rattle.banking_days.specs.Lists.{stands_from}
use Rattle.banking_days.proofs.list.stands_in.Given as goal

abbrev pub invariant-loop-k : goal.invariant-loop-k
invariant-loop-k l = stands_from l.six l.list (7 * l.k) ≡ stands_from l.six l.list 0
