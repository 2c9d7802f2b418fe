-- The accounts that posting lines name are IBANs: the temporary account of a register that passed 9, and the account of a detail that is credited, by its account or by its code.
use Rattle.std.specs.Prelude.{◌≡◌, true, List, ℕ}
use Rattle.std.proofs.Math.Option.{some}
use Rattle.rules.specs.Text.{is_some}
use Rattle.rules.specs.Accounts.{iban_shape, passes}
use Rattle.rules.specs.Register.{Register, register, register_of}
use Rattle.rules.specs.Verdict.{no_account, account_at, verdict, by_code}
use Rattle.laws.specs.Tests.{and_left}
use Rattle.laws.specs.All.{All, all_at}
use Rattle.rule_laws.specs.Options.{There, there}
use Rattle.rule_laws.specs.Verdicts.{credited_line, line_known}
use Rattle.rule_laws.specs.Registers.{temporary_passes, Passes}

pub temporary_shape : (text : List ℕ) → is_some (register text) ≡ true → iban_shape (register_of text).temporary ≡ true
unfolding register_of passes
temporary_shape text h = let t : There (register text) = there (register text) h in rw t.is (and_left _ _ (temporary_passes text t.value t.is))

-- a detail that is credited goes to an account of right shape
pub credited_shape : (r : Register) → All Passes r.accounts → (code cs : List ℕ) (i : ℕ) → credited_line (by_code r code (verdict r cs)) ≡ some i → iban_shape (account_at r i).iban ≡ true
unfolding passes
credited_shape r a code cs i h = and_left _ _ (all_at no_account i a (line_known r code cs i h))
