-- Document 02, CR 2: banking days.
use Rattle.std.specs.Prelude.{Bool, ◌&&◌, not, List, [], ◌∷◌, ℕ, zero, suc, ◌+◌, ◌-◌, ◌/◌, ◌%◌, leb, eqb, length, take}
use Rattle.std.proofs.Math.Option.{Option, some, get_or}
use Rattle.rules.specs.Text.{then, given, read_each, any, ordered, added_up}
use Rattle.rules.specs.Dates.{months_of, date}
use Rattle.rules.specs.Lines.{parted}

-- ---- "1 January 2000 was a Saturday."

-- days from 1 January 2000 to 1 January of a year
unfoldable pub days_to_year : ℕ → ℕ
days_to_year zero = 0
days_to_year (suc year) = days_to_year year + added_up (months_of year)

-- days from 1 January 2000 to a date
unfoldable pub days_to : ℕ → ℕ
days_to n =
    let year = n / 10000 in
    days_to_year year + added_up (take (n / 100 % 100 - 1) (months_of year)) + (n % 100 - 1)

-- the day of the week, from Saturday, 0, and Sunday, 1, on
unfoldable pub weekday : ℕ → ℕ
weekday n = days_to n % 7

-- "a Saturday, a Sunday"
unfoldable pub is_weekend : ℕ → Bool
is_weekend n = leb (weekday n) 1

-- ---- the holiday list

-- "each later than the last"
unfoldable pub earlier_date : ℕ → ℕ → Bool
earlier_date d e = not (leb e d)

-- "0 to 60 holidays, existing dates, each later than the last, parted by commas and nothing else": those of a text, which is empty where there are none; none falls under 18
unfoldable pub holidays : List ℕ → Option (List ℕ)
holidays [] = some []
holidays (c ∷ cs) = then (read_each date (parted (c ∷ cs))) (λ ds. given (leb (length ds) 60 && ordered earlier_date ds) ds)

-- the holidays that an engine keeps as their text
unfoldable pub holidays_of : List ℕ → List ℕ
holidays_of cs = get_or (holidays cs) []

-- ---- the day

-- "a listed holiday"
unfoldable pub is_listed : List ℕ → ℕ → Bool
is_listed ds day = any (eqb day) ds

-- none of "a Saturday, a Sunday or a listed holiday": 17 where it is not
unfoldable pub is_banking_day : List ℕ → ℕ → Bool
is_banking_day ds day = not (is_weekend day) && not (is_listed ds day)
