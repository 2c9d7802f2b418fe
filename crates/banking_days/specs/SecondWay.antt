-- The count of days against a second way that uses no table: months are counted from March, so that the leap day ends a year, and five in a row, none of them February, have 153 days.
use Rattle.std.specs.Prelude.{◌≡◌, refl, Bool, true, false, cond, [], ℕ, zero, suc, ◌+◌, ◌-◌, ◌*◌, ◌/◌, ◌%◌, ◌≤◌, leb, eqb, get_or, take}
use Rattle.std.proofs.Common.{arith, le-leb, eqb-true}
use Rattle.std.proofs.lemmas.Bool.{eqb-false}
use Rattle.rules.specs.Text.{added_up}
use Rattle.rules.specs.Dates.{month_lengths, leap_row, months_of, exists}
use Rattle.rules.specs.BankingDays.{days_to}
use Rattle.laws.specs.Tables.{below, below_at}
use Rattle.banking_days.specs.Weekdays.{Existing, existing, to_year}

-- the days from 1 January 2000 to a date, by years that begin in March: a is 1 in January and February, which end the year before, and k counts months from March
unfoldable pub by_march : ℕ → ℕ
by_march n =
    let y = n / 10000 in
    let m = n / 100 % 100 in
    let d = n % 100 in
    let a = (14 - m) / 12 in
    let z = y + 4 - a in
    let k = m + 12 * a - 3 in
    d + (153 * k + 2) / 5 + 365 * z + z / 4 - 1402

-- a and the days from March of a month
unfoldable ends_year : ℕ → ℕ
ends_year m = (14 - m) / 12

unfoldable from_march : ℕ → ℕ
from_march m = (153 * (m + 12 * ends_year m - 3) + 2) / 5

-- the months of a row before one, and those from March on; leap is the row
abbrev agrees : ℕ → ℕ → Bool
agrees leap m =
    let same = eqb (added_up (take (m - 1) (get_or month_lengths leap [])) + 306 * ends_year m) (from_march m + (1 - ends_year m) * (59 + leap)) in
    cond (leb 1 m) same true

all_agree : (leap : ℕ) → below (agrees leap) 13 ≡ true → (m : ℕ) → 1 ≤ m → m ≤ 12
    → added_up (take (m - 1) (get_or month_lengths leap [])) + 306 * ends_year m ≡ from_march m + (1 - ends_year m) * (59 + leap)
all_agree leap h m l k = eqb-true _ _ (rw (le-leb 1 m l) at (below_at (agrees leap) 13 h m (omega arith)))

one_at_most : (m : ℕ) → 1 ≤ m → ends_year m ≤ 1
unfolding ends_year
one_at_most m l = omega arith

-- s days before a month, k from March to it, a for January and February, and leap a year's leap day
joined : (year s k d a leap : ℕ) → a ≤ 1 → 1 ≤ d → s + 306 * a ≡ k + (1 - a) * (59 + leap) → (year + 3) / 4 + leap ≡ (year + 4) / 4
    → year * 365 + (year + 3) / 4 + s + (d - 1) ≡ d + k + 365 * (year + 4 - a) + (year + 4 - a) / 4 - 1402
joined year s k d zero leap h l e f = omega arith
joined year s k d (suc zero) leap h l e f = omega arith
joined year s k d (suc (suc a)) leap h l e f = absurd (omega arith)

same_days : (year m d : ℕ) → 1 ≤ m → m ≤ 12 → 1 ≤ d
    → year * 365 + (year + 3) / 4 + added_up (take (m - 1) (months_of year)) + (d - 1)
    ≡ d + from_march m + 365 * (year + 4 - ends_year m) + (year + 4 - ends_year m) / 4 - 1402
unfolding leap_row added_up ends_year from_march
same_days year m d l h k = go (eqb (year % 4) 0) refl
  where
    go : (t : Bool) → eqb (year % 4) 0 ≡ t
        → year * 365 + (year + 3) / 4 + added_up (take (m - 1) (get_or month_lengths (cond t 1 0) [])) + (d - 1)
        ≡ d + from_march m + 365 * (year + 4 - ends_year m) + (year + 4 - ends_year m) / 4 - 1402
    go true e = joined year _ (from_march m) d (ends_year m) 1 (one_at_most m l) k (all_agree 1 refl m l h) (let q : year % 4 ≡ 0 = eqb-true (year % 4) 0 e in omega arith)
    go false e = joined year _ (from_march m) d (ends_year m) 0 (one_at_most m l) k (all_agree 0 refl m l h) (let q : (year % 4 ≡ 0 → ⊥) = eqb-false (year % 4) 0 e in omega arith)

pub second_way : (n : ℕ) → exists n ≡ true → days_to n ≡ by_march n
unfolding days_to by_march ends_year from_march
second_way n h =
    let e : Existing n = existing n h in
    rw to_year (same_days (n / 10000) (n / 100 % 100) (n % 100) e.first e.last e.low)
