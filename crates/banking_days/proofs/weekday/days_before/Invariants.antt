-- `banking_days::weekday::days_before` meets its contract. The loop's invariant: the days are those of the months before m.
use Prim.Native.Nat.{◌≤◌}
use Rattle.banking_days.specs.Weekdays.{DaysBefore}
use Rattle.banking_days.proofs.weekday.days_before.Given as goal

abbrev pub invariant-loop-m : goal.invariant-loop-m
invariant-loop-m l = (1 ≤ l.m) × (l.m ≤ l.month) × DaysBefore l.year l.m l.days
