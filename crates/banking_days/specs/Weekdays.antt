-- The days from 1 January 2000 to a date: 365 for each year and one for each leap year before it, the months before its own, and its days.
use Rattle.std.specs.Prelude.{◌≡◌, refl, Bool, true, false, ◌&&◌, cond, List, [], ◌∷◌, ◌++◌, ℕ, zero, suc, ◌+◌, ◌-◌, ◌*◌, ◌/◌, ◌%◌, ◌≤◌, ◌<◌, leb, eqb, length, get_or, take}
use Rattle.std.proofs.Common.{arith, take-suc, leb-true, eqb-true}
use Rattle.std.proofs.lemmas.Bool.{eqb-false}
use Rattle.rules.specs.Text.{between, added_up}
use Rattle.rules.specs.Dates.{month_lengths, leap_row, months_of, month_length, exists}
use Rattle.rules.specs.BankingDays.{days_to_year, days_to, weekday, is_weekend}
use Rattle.laws.specs.Tests.{and_left, and_right, between_low, between_high}
use Rattle.laws.specs.Tables.{below_at}

-- ---- the months before one

-- r is how many days of a year stand before a month
pub record DaysBefore (year month r : ℕ) : Type 0 where
  pub same : r ≡ added_up (take (month - 1) (months_of year))
  pub small : r ≤ 31 * (month - 1)

-- each row has 12 months, of 31 days at most
months : (year : ℕ) → length (months_of year) ≡ 12
unfolding leap_row
months year = go (eqb (year % 4) 0)
  where
    go : (t : Bool) → length (get_or month_lengths (cond t 1 0) []) ≡ 12
    go true = refl
    go false = refl

month_small : (year month : ℕ) → 1 ≤ month → month ≤ 12 → month_length year month ≤ 31
unfolding month_length leap_row
month_small year month l h = leb-true _ 31 (go (eqb (year % 4) 0))
  where
    go : (t : Bool) → leb (get_or (get_or month_lengths (cond t 1 0) []) (month - 1) 0) 31 ≡ true
    go true = below_at (λ i. leb (get_or (get_or month_lengths 1 []) i 0) 31) 12 refl (month - 1) (omega arith)
    go false = below_at (λ i. leb (get_or (get_or month_lengths 0 []) i 0) 31) 12 refl (month - 1) (omega arith)

added_last : (ns : List ℕ) (k : ℕ) → added_up (ns ++ k ∷ []) ≡ added_up ns + k
unfolding added_up
added_last [] k = omega arith
added_last (n ∷ ns) k = rw (added_last ns k) (omega arith)

pub before_none : (year : ℕ) → DaysBefore year 1 0
unfolding added_up
before_none year = record { same = refl; small = omega arith }

pub before_more : (year m month d k : ℕ) → DaysBefore year m d → 1 ≤ m → m < month → month ≤ 12 → k ≡ month_length year m → DaysBefore year (m + 1) (d + k)
unfolding month_length
before_more year m month d k b l h n e =
    let i : m + 1 - 1 ≡ suc (m - 1) = omega arith in record {
      same = rw (i, take-suc (months_of year) (m - 1) 0 (omega (arith, months year)), added_last, ← b.same, e);
      small = omega (arith, b.small, month_small year m l (omega arith));
    }

pub before_end_lem : (year m month d : ℕ) → DaysBefore year m d → m ≤ month → month ≤ m → DaysBefore year month d
before_end_lem year m month d b l h = let e : month ≡ m = omega arith in rw e b

-- ---- the years before one

year_added : (year : ℕ) → added_up (months_of year) ≡ 365 + ((year + 4) / 4 - (year + 3) / 4)
unfolding leap_row added_up
year_added year = go (eqb (year % 4) 0) refl
  where
    go : (t : Bool) → eqb (year % 4) 0 ≡ t → added_up (get_or month_lengths (cond t 1 0) []) ≡ 365 + ((year + 4) / 4 - (year + 3) / 4)
    go true e = omega (arith, eqb-true (year % 4) 0 e)
    go false e = let n : (year % 4 ≡ 0 → ⊥) = eqb-false (year % 4) 0 e in omega arith

pub to_year : (year : ℕ) → days_to_year year ≡ year * 365 + (year + 3) / 4
unfolding days_to_year
to_year zero = refl
to_year (suc year) = omega (arith, to_year year, year_added year)

-- ---- a date

-- what an existing date says of its parts
pub record Existing (n : ℕ) : Type 0 where
  pub year : n / 10000 ≤ 99
  pub first : 1 ≤ n / 100 % 100
  pub last : n / 100 % 100 ≤ 12
  pub low : 1 ≤ n % 100

pub existing : (n : ℕ) → exists n ≡ true → Existing n
unfolding exists
existing n h =
    let front = and_left _ _ h in
    let months = and_right (leb (n / 10000) 99) _ front in
    let days = and_right (leb (n / 10000) 99 && between 1 12 (n / 100 % 100)) _ h in record {
      year = leb-true _ 99 (and_left _ _ front);
      first = between_low 1 12 _ months;
      last = between_high 1 12 _ months;
      low = between_low 1 _ (n % 100) days;
    }

-- a date by its year and the four digits behind it
pub to_date : (n year rest d : ℕ) → year ≡ n / 10000 → rest ≡ n % 10000 → DaysBefore year (rest / 100) d → year * 365 + (year + 3) / 4 + d + (rest - rest / 100 * 100 - 1) ≡ days_to n
unfolding days_to
to_date n year rest d y r b =
    let m : n / 100 % 100 ≡ rest / 100 = omega arith in
    let k : n % 100 ≡ rest - rest / 100 * 100 = omega arith in
    rw (m, k, ← y, to_year, ← b.same)

pub weekend_by : (n d : ℕ) → d ≡ days_to n → leb (d % 7) 1 ≡ is_weekend n
unfolding is_weekend weekday
weekend_by n d e = rw e

pub ruleset weekdays = (existing, before_none, before_more, before_end_lem, to_date, weekend_by)
