-- Document 01, "Judging a detail"; document 02, CR 5: a code that leads to the beneficiary.
use Rattle.std.specs.Prelude.{Bool, true, false, ◌&&◌, ◌||◌, not, cond, List, [], ◌∷◌, ℕ, ◌+◌, get_or, take, drop}
use Rattle.std.proofs.Math.Option
use Rattle.std.proofs.Math.Option.{Option, none, some}
use Rattle.rules.specs.Text.{ascii, between, equal, fits, digits, then}
use Rattle.rules.specs.Accounts.{iban_shape, control}
use Rattle.rules.specs.Register.{Account, Code, Register}

-- "the first cause of: shape, control, not in the register, code outside its bounds"
pub data Cause : Type 0 where
  wrong_shape : Cause
  wrong_control : Cause
  not_in_register : Cause
  out_of_bounds : Cause

-- "A detail's verdict is credited, with the register line found, or returned, with the first cause", or "If a detail would be returned" by a cause, credited by its code, with the line of "that account"; account lines count from 0
pub data Verdict : Type 0 where
  credited : ℕ → Verdict
  credited_by_code : ℕ → Cause → Verdict
  returned : Cause → Verdict

-- the account line of an IBAN, the first of the lines being line n
unfoldable pub found : List ℕ → ℕ → List Account → Option ℕ
found iban n [] = none
found iban n (a ∷ more) = let r = found iban (n + 1) more in cond (equal a.iban iban) (some n) r

-- behind the last account line
abbrev pub no_account : Account
no_account = record { iban = []; low = 0; high = 0 }

-- "the register line found"
abbrev pub account_at : Register → ℕ → Account
account_at r i = get_or r.accounts i no_account

-- "an IBAN, alone or followed by `PAY` and six digits"
unfoldable pub shaped : List ℕ → Bool
shaped cs = iban_shape (take 22 cs) && (equal (drop 22 cs) [] || fits (ascii "PAYnnnnnn") (drop 22 cs))

-- "A missing code is within bounds."
unfoldable pub in_bounds : Account → List ℕ → Bool
in_bounds a cs = equal (drop 22 cs) [] || between a.low a.high (Option.get_or (digits (drop 25 cs)) 0)

-- what is found, and its bounds
unfoldable pub judged : Register → List ℕ → Option ℕ → Verdict
judged r cs none = returned not_in_register
judged r cs (some i) = cond (in_bounds (account_at r i) cs) (credited i) (returned out_of_bounds)

-- the verdict on field 59 behind its slash, without codes
unfoldable pub verdict : Register → List ℕ → Verdict
verdict r cs =
    cond (not (shaped cs)) (returned wrong_shape)
    (cond (not (control (take 22 cs))) (returned wrong_control)
    (judged r cs (found (take 22 cs) 0 r.accounts)))

-- the IBAN beside a code that is listed
unfoldable pub iban_beside : List ℕ → List Code → Option (List ℕ)
iban_beside code [] = none
iban_beside code (c ∷ more) = let r = iban_beside code more in cond (equal c.code code) (some c.iban) r

-- the account line to which a code leads
unfoldable pub line_by_code : Register → List ℕ → Option ℕ
line_by_code r code = then (iban_beside code r.codes) (λ iban. found iban 0 r.accounts)

-- for a cause returned, or "credited to that account"; "The code is not tried against payment bounds."
unfoldable pub by_line : Cause → Option ℕ → Verdict
by_line c none = returned c
by_line c (some i) = credited_by_code i c

-- "If a detail would be returned and the second line behind its 50H account is a code so listed, it is credited to that account."
unfoldable pub by_code : Register → List ℕ → Verdict → Verdict
by_code r code (credited i) = credited i
by_code r code (credited_by_code i c) = credited_by_code i c
by_code r code (returned c) = by_line c (line_by_code r code)

-- is the detail returned?
unfoldable pub is_returned : Verdict → Bool
is_returned (credited i) = false
is_returned (credited_by_code i c) = false
is_returned (returned c) = true

-- does the MT199 list the detail? "The MT199 still lists the detail"
unfoldable pub is_listed199 : Verdict → Bool
is_listed199 (credited i) = false
is_listed199 (credited_by_code i c) = true
is_listed199 (returned c) = true
