-- `banking_days::list::dates_rise` meets its contract. The loop's invariant: what is left rises behind the last date where the whole list rises.
use Rattle.std.proofs.Common.{◌≡◌, length}
use Rattle.banking_days.specs.Lists.{rising}
use Rattle.banking_days.proofs.list.dates_rise.Given as goal

abbrev pub invariant-loop-six : goal.invariant-loop-six
invariant-loop-six l = rising l.last l.rest ≡ rising 0 l.list

abbrev pub decreases-loop-six : goal.decreases-loop-six
decreases-loop-six l = length l.rest
