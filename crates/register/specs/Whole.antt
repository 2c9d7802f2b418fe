-- A register's whole text: n account lines behind its first line, m code lines behind those, and the last line.
use Rattle.std.specs.Prelude.{Bool, ◌&&◌, not, List, ◌∷◌, map, ℕ, ◌+◌, ◌*◌, eqb, length}
use Rattle.std.proofs.Math.Option.{Option}
use Rattle.rules.specs.Text.{equal, any, twice}
use Rattle.rules.specs.Register.{Account, Code, Register, is_foreign}
use Rattle.rules.specs.Verdict.{iban_beside, found}
use Rattle.rules.specs.Moves.{end_line}
use Rattle.laws.specs.Parts.{cut, from}
use Rattle.register_lines.specs.Places.{places_from, upto, leading_from, key_in, keys_in, repeat_in, account_in, account_stands, code_in, code_stands, first_in}

-- where account line i begins
abbrev pub place : ℕ → ℕ
place i = 24 + 38 * i

-- n account lines
unfoldable pub accounts_in : List ℕ → ℕ → List Account
accounts_in s n = map (account_in s) (places_from 38 24 n)

-- of account lines i up to n the one with an IBAN
unfoldable pub found_in : List ℕ → List ℕ → ℕ → ℕ → Option ℕ
found_in iban s i n = found iban i (map (account_in s) (upto 38 24 i n))

-- k code lines
unfoldable pub codes_in : List ℕ → ℕ → ℕ → List Code
codes_in s at k = map (code_in s) (places_from 35 at k)

-- one of them has an account that is none of n account lines
unfoldable pub foreign_in : List ℕ → ℕ → ℕ → ℕ → Bool
foreign_in s n at k = any (is_foreign (accounts_in s n)) (codes_in s at k)

-- one of code lines k up to m, the first of all at a place
unfoldable pub foreign_from : List ℕ → ℕ → ℕ → ℕ → ℕ → Bool
foreign_from s n at k m = any (is_foreign (accounts_in s n)) (map (code_in s) (upto 35 at k m))

-- of code lines j up to m, the first of all at a place, the IBAN beside a code
unfoldable pub beside_in : List ℕ → List ℕ → ℕ → ℕ → ℕ → Option (List ℕ)
beside_in code s at j m = iban_beside code (map (code_in s) (upto 35 at j m))

-- ---- the whole text

-- how many account lines stand behind the first line, and how many code lines behind n of them
unfoldable pub count : List ℕ → ℕ
count s = leading_from (account_stands s) 38 24 40

unfoldable pub code_count : List ℕ → ℕ → ℕ
code_count s n = leading_from (code_stands s) 35 (place n) 40

-- an IBAN appears twice
unfoldable pub again_in : List ℕ → ℕ → Bool
again_in s n = twice equal (key_in s 22 0 ∷ keys_in s 22 (upto 38 24 0 n))

-- of n account lines and m code lines each IBAN and each code appears a single time, and no account is foreign
unfoldable pub lines_test : List ℕ → ℕ → ℕ → Bool
lines_test s n m = not (again_in s n) && not (foreign_in s n (place n) m) && not (repeat_in s 10 35 (place n) 0 m)

-- the last line is all that is left
unfoldable pub closes_at : List ℕ → ℕ → Bool
closes_at s at = equal (from s at) end_line

-- all tests
unfoldable pub passes_in : List ℕ → ℕ → ℕ → Bool
passes_in s n m = first_in s && closes_at s (place n + 35 * m) && lines_test s n m

-- all tests of an old text, which ends behind its account lines
unfoldable pub old_in : List ℕ → ℕ → Bool
old_in s n = first_in s && eqb (length s) (place n) && lines_test s n 0

-- what it says
unfoldable pub register_in : List ℕ → ℕ → ℕ → Register
register_in s n m = record { temporary = cut s 0 22; accounts = accounts_in s n; codes = codes_in s (place n) m }
