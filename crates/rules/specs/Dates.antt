-- Document 01, "Dates, amounts, accounts": dates.
use Rattle.std.specs.Prelude.{Bool, ◌&&◌, cond, List, [], ◌∷◌, ℕ, ◌-◌, ◌/◌, ◌%◌, leb, eqb, length, get_or}
use Rattle.std.proofs.Math.Option.{Option, none}
use Rattle.rules.specs.Text.{between, digits, then, given}

-- "month lengths come from a table with one row for leap years"
abbrev pub month_lengths : List (List ℕ)
month_lengths =
    (31 ∷ 28 ∷ 31 ∷ 30 ∷ 31 ∷ 30 ∷ 31 ∷ 31 ∷ 30 ∷ 31 ∷ 30 ∷ 31 ∷ [])
    ∷ (31 ∷ 29 ∷ 31 ∷ 30 ∷ 31 ∷ 30 ∷ 31 ∷ 31 ∷ 30 ∷ 31 ∷ 30 ∷ 31 ∷ [])
    ∷ []

-- "A year is leap if four divides it.": its row of the table
unfoldable pub leap_row : ℕ → ℕ
leap_row year = cond (eqb (year % 4) 0) 1 0

-- the lengths of a year's months
abbrev pub months_of : ℕ → List ℕ
months_of year = get_or month_lengths (leap_row year) []

-- the length of a month, 1 to 12
unfoldable pub month_length : ℕ → ℕ → ℕ
month_length year month = get_or (months_of year) (month - 1) 0

-- "A day handed to a call is the number of these digits.": the number is an existing date
unfoldable pub exists : ℕ → Bool
exists n =
    let year = n / 10000 in
    let month = n / 100 % 100 in
    leb year 99 && between 1 12 month && between 1 (month_length year month) (n % 100)

-- "A date is six digits, year, month, day": the number of these digits, where the date exists
unfoldable pub date : List ℕ → Option ℕ
date cs = cond (eqb (length cs) 6) (then (digits cs) (λ n. given (exists n) n)) none
