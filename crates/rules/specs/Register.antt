-- Document 01, "Register and opening": the register's text; document 02, CR 5: its code lines; CR 6: its last line, and the older form without either.
use Rattle.std.specs.Prelude.{Bool, ◌&&◌, not, List, [], ◌∷◌, map, ℕ, leb, length, take, drop}
use Rattle.std.proofs.Math.Option
use Rattle.std.proofs.Math.Option.{Option, none, get_or}
use Rattle.rules.specs.Text.{ascii, equal, fits, digits, then, given, read_each, Leading, read_leading, any, twice}
use Rattle.rules.specs.Accounts.{passes}
use Rattle.rules.specs.Lines.{Line, before, lines}

-- an account line `IBAN,low,high`, "bounds of the payment code"
pub record Account : Type 0 where
  pub iban : List ℕ
  pub low : ℕ
  pub high : ℕ

-- a code line `code,IBAN`
pub record Code : Type 0 where
  pub code : List ℕ
  pub iban : List ℕ

-- "a first line with the temporary account's IBAN, then 0 to 40 lines", and "behind its account lines, 0 to 40 lines `code,IBAN`"
pub record Register : Type 0 where
  pub temporary : List ℕ
  pub accounts : List Account
  pub codes : List Code

-- "in six digits, low at most high", and the IBAN passes
unfoldable pub account_line : Line → Option Account
account_line l =
    then (digits (take 6 (drop 23 l))) (λ low.
    then (digits (take 6 (drop 30 l))) (λ high.
    given (fits (ascii "cccccccccccccccccccccc,nnnnnn,nnnnnn") l && passes (take 22 l) && leb low high)
    record { iban = take 22 l; low = low; high = high }))

-- "`code,IBAN`: ten digits and the IBAN"
unfoldable pub code_line : Line → Option Code
code_line l = given (fits (ascii "nnnnnnnnnn,cccccccccccccccccccccc") l) record { code = take 10 l; iban = drop 11 l }

-- the IBANs of account lines
abbrev pub account_ibans : List Account → List (List ℕ)
account_ibans xs = map (λ (a : Account). a.iban) xs

-- the IBANs of the temporary account and of all account lines
abbrev pub ibans : Register → List (List ℕ)
ibans r = r.temporary ∷ account_ibans r.accounts

-- "0 to 40 lines", and "Every IBAN passes and appears a single time."
unfoldable pub sound_accounts : Register → Bool
sound_accounts r = passes r.temporary && leb (length r.accounts) 40 && not (twice equal (ibans r))

-- "a code twice"
unfoldable pub same_code : Code → Code → Bool
same_code c d = equal c.code d.code

-- "a foreign account": not "the IBAN of an account line above"
unfoldable pub is_foreign : List Account → Code → Bool
is_foreign xs c = not (any (equal c.iban) (account_ibans xs))

-- "0 to 40 lines", "the IBAN of an account line above, each code a single time"
unfoldable pub sound_codes : Register → Bool
sound_codes r = leb (length r.codes) 40 && not (any (is_foreign r.accounts) r.codes) && not (twice same_code r.codes)

-- what is asked of all lines together
unfoldable pub sound : Register → Bool
sound r = sound_accounts r && sound_codes r

-- a first line, account lines, and code lines "behind its account lines"
unfoldable pub of_lines : List Line → Option Register
of_lines [] = none
of_lines (l ∷ ls) =
    let a : Leading Line Account = read_leading account_line ls in
    then (read_each code_line a.others) (λ codes.
    let r : Register = record { temporary = l; accounts = a.read; codes = codes } in
    given (sound r) r)

-- "a last line `END`": the lines before it
unfoldable pub before_end : List Line → Option (List Line)
before_end [] = none
before_end (l ∷ []) = given (equal l (ascii "END")) []
before_end (l ∷ m ∷ ls) = Option.map (before l) (before_end (m ∷ ls))

-- the register of a text, "which opening now requires" to end so; none falls under 9
unfoldable pub register : List ℕ → Option Register
register cs = then (then (lines cs) before_end) of_lines

-- of an engine's text, which passed 9
abbrev pub empty_register : Register
empty_register = record { temporary = []; accounts = []; codes = [] }

-- the register that an engine keeps as its text
unfoldable pub register_of : List ℕ → Register
register_of cs = get_or (register cs) empty_register

-- ---- "the old register text, document 01's without code lines"

-- "a first line with the temporary account's IBAN, then 0 to 40 lines"
unfoldable pub old_of_lines : List Line → Option Register
old_of_lines [] = none
old_of_lines (l ∷ ls) =
    then (read_each account_line ls) (λ accounts.
    let r : Register = record { temporary = l; accounts = accounts; codes = [] } in
    given (sound_accounts r) r)

-- the register of an old text
unfoldable pub old_register : List ℕ → Option Register
old_register cs = then (lines cs) old_of_lines
