-- Banking days, one table: days around 29 February, year ends, and holidays, of which one is a Saturday; counts and weekdays are those of an outside calendar. And what the listing's turn is dated with.
use Rattle.std.specs.Prelude.{◌≡◌, refl, Bool, true, false, List, [], ◌∷◌, map, ℕ, drop}
use Prim.Native.String.{String}
use Rattle.rules.specs.Text.{ascii, is_digit, is_letter, is_alnum, fits, fits_sign, equal, read_each, any, ordered, digits_from, added_up}
use Rattle.rules.specs.Dates.{leap_row, month_length, exists, date}
use Rattle.rules.specs.Lines.{parted}
use Rattle.rules.specs.Accounts.{is_bic, iban_shape}
use Rattle.rules.specs.BankingDays.{days_to_year, days_to, weekday, is_weekend, earlier_date, holidays, holidays_of, is_listed, is_banking_day}
use Rattle.rules.specs.Ledger.{is_party, is_number, is_posting, posted_parts, posted}
use Rattle.rules.specs.Listing.{output}
use Rattle.rules.specs.OnBankingDays.{posting_dates, dated_behind, field_dates, line_dates}

-- a day beside a holiday list: the days from 1 January 2000 to it, its weekday (Saturday 0, Sunday 1), and whether it is a banking day
pub record Case : Type 0 where
  pub list : String
  pub day : ℕ
  pub days : ℕ
  pub weekday : ℕ
  pub banking : Bool

-- a row of the table
abbrev pub case : String → ℕ → ℕ → ℕ → Bool → Case
case l d n w b = record { list = l; day = d; days = n; weekday = w; banking = b }

abbrev pub cases : List Case
cases =
    case "" 101 0 0 false
    ∷ case "" 102 1 1 false
    ∷ case "" 103 2 2 true
    ∷ case "" 228 58 2 true
    ∷ case "" 229 59 3 true
    ∷ case "" 301 60 4 true
    ∷ case "" 1231 365 1 false
    ∷ case "" 10101 366 2 true
    ∷ case "" 40228 1519 0 false
    ∷ case "" 40229 1520 1 false
    ∷ case "" 40301 1521 2 true
    ∷ case "" 41231 1826 6 true
    ∷ case "" 50101 1827 0 false
    ∷ case "" 60228 2250 3 true
    ∷ case "" 60301 2251 4 true
    ∷ case "" 950228 34757 2 true
    ∷ case "" 950301 34758 3 true
    ∷ case "" 951231 35063 0 false
    ∷ case "" 960101 35064 1 false
    ∷ case "" 960228 35122 3 true
    ∷ case "" 960229 35123 4 true
    ∷ case "" 960301 35124 5 true
    ∷ case "" 991230 36523 4 true
    ∷ case "" 991231 36524 5 true
    ∷ case "060304" 60304 2254 0 false
    ∷ case "060304" 60306 2256 2 true
    ∷ case "060306" 60306 2256 2 false
    ∷ case "060303,060306" 60303 2253 6 false
    ∷ case "060303,060306" 60307 2257 3 true
    ∷ case "000101,991231" 991231 36524 5 false
    ∷ case "000101,991231" 991230 36523 4 true
    ∷ []

-- each day of the table is what the table says
pub marked : map (λ (c : Case). case c.list c.day (days_to c.day) (weekday c.day) (is_banking_day (holidays_of (ascii c.list)) c.day)) cases ≡ cases
unfolding is_digit digits_from added_up read_each any ordered leap_row month_length exists date parted days_to_year days_to weekday is_weekend earlier_date holidays holidays_of is_listed is_banking_day
marked = refl

-- what the listing's turn to 060303 writes is dated with that day, five times
pub dated : line_dates (map ascii (drop 35 output)) ≡ map ascii ("060303" ∷ "060303" ∷ "060303" ∷ "060303" ∷ "060303" ∷ [])
unfolding is_digit is_letter is_alnum fits fits_sign equal digits_from parted is_bic iban_shape is_party is_number is_posting posted_parts posted posting_dates dated_behind field_dates line_dates
dated = refl
