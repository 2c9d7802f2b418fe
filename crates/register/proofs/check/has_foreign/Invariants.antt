-- `register::check::has_foreign` meets its contract. The loop's invariant: an account is foreign among those that are left where one is among all.
use Rattle.std.specs.Prelude.{◌≡◌}
use Rattle.register.specs.Whole.{foreign_in, foreign_from}
use Rattle.register.proofs.check.has_foreign.Given as goal

abbrev pub invariant-loop-k : goal.invariant-loop-k
invariant-loop-k l = foreign_from l.accounts.text.now l.accounts.count l.at l.k l.m ≡ foreign_in l.accounts.text.now l.accounts.count l.at l.m
