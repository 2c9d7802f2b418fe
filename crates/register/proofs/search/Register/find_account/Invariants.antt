-- `Register::find_account` meets its contract. The loop's invariant: the line is found among those that are left as among all.
use Rattle.std.specs.Prelude.{◌≡◌, drop}
use Rattle.rules.specs.Verdict.{found}
use Rattle.rules.specs.Register.{register_of}
use Rattle.register.proofs.search.Register.find_account.Given as goal

abbrev pub invariant-loop-i : goal.invariant-loop-i
invariant-loop-i l = found l.iban l.i (drop l.i (register_of l.self.text.now).accounts) ≡ found l.iban 0 (register_of l.self.text.now).accounts
