-- Which dates exist, and the date that six digits are, one law for each way that the code goes.
use Rattle.std.specs.Prelude.{◌≡◌, refl, Bool, true, false, ◌&&◌, cond, List, [], ◌∷◌, ℕ, ◌+◌, ◌-◌, ◌*◌, ◌/◌, ◌%◌, ◌≤◌, ◌<◌, leb, length, get_or, take, drop, ◌^◌}
use Rattle.std.proofs.Common.{sym, ap, ◌∙◌}
use Rattle.std.proofs.Math.Option.{none, some}
use native.Mathlib.Omega.{arith}
use borrow.Author.Tests.{le-leb, lt-leb, eq-eqb, ne_eqb}
use Rattle.rules.specs.Text.{between, is_digit, every, digits, digits_from}
use Rattle.rules.specs.Dates.{month_lengths, leap_row, month_length, exists, date}
use Rattle.laws.specs.Parts.{cut, cut_all, cut_two}
use Rattle.laws.specs.Tests.{none_some}
use Rattle.laws.specs.Reading.{digit_low, digit_small}
use Rattle.laws.specs.Every.{every_front, every_piece, every_take, every_drop, every_head, every_at}
use Rattle.laws.specs.Places.{Passed, passed_all}
use Rattle.laws.specs.Slices.{part_cut}
use Rattle.laws.specs.Values.{Valued, valued, digits_take, behind_digits, every_none}

-- a year, a month and a day make an existing date
unfoldable pub is_date : ℕ → ℕ → ℕ → Bool
is_date year month day = between 1 12 month && between 1 (month_length year month) day

-- ---- the length of a month

-- the table's row of a year
pub record RowOf (year r : ℕ) : Type 0 where
  pub same : r ≡ leap_row year
  pub row : r < 2

pub row_leap : (year : ℕ) → year % 4 ≡ 0 → RowOf year 1
unfolding leap_row
row_leap year h = record { same = rw (eq-eqb _ _ h); row = omega arith }

pub row_common : (year : ℕ) → (year % 4 ≡ 0 → ⊥) → RowOf year 0
unfolding leap_row
row_common year h = record { same = rw (ne_eqb _ _ h); row = omega arith }

-- what stands in the row
pub length_at : (year month r : ℕ) → RowOf year r → get_or (get_or month_lengths r []) (month - 1) 0 ≡ month_length year month
unfolding month_length
length_at year month r h = rw h.same

-- ---- year, month and day

module _ (year month day : ℕ) where
  pub no_month : month < 1 → false ≡ is_date year month day
  unfolding is_date
  no_month h = rw (lt-leb _ _ h)

  module _ (l : 1 ≤ month) where
    pub late_month : 12 < month → false ≡ is_date year month day
    unfolding is_date
    late_month h = rw (le-leb _ _ l, lt-leb _ _ h)

    module _ (h : month ≤ 12) where
      pub no_day : day < 1 → leb 1 day ≡ is_date year month day
      unfolding is_date
      no_day d = rw (le-leb _ _ l, le-leb _ _ h, lt-leb _ _ d)

      pub by_length : 1 ≤ day → (k : ℕ) → k ≡ month_length year month → leb day k ≡ is_date year month day
      unfolding is_date
      by_length d k e = rw (e, le-leb _ _ l, le-leb _ _ h, le-leb _ _ d)

  -- the number of all three
  exists_parts : (n : ℕ) → n ≡ year * 10000 + (month * 100 + day) → year < 100 → month < 100 → day < 100 → is_date year month day ≡ exists n
  unfolding is_date exists
  exists_parts n e y m d =
      let a : n / 10000 ≡ year = omega arith in
      let b : n / 100 % 100 ≡ month = omega arith in
      let c : n % 100 ≡ day = omega arith in
      rw (a, b, c, le-leb year 99 (omega arith))

pub no_year : (n : ℕ) → 999999 < n → false ≡ exists n
unfolding exists
no_year n h = rw (lt-leb (n / 10000) 99 (omega arith))

-- a number of six digits, in its year and the four digits behind it
pub by_parts : (n year rest : ℕ) (t : Bool) → year ≡ n / 10000 → rest ≡ n % 10000 → n ≤ 999999 → t ≡ is_date year (rest / 100) (rest - rest / 100 * 100) → t ≡ exists n
by_parts n year rest t y r l u = u ∙ exists_parts year (rest / 100) (rest - rest / 100 * 100) n (omega arith) (omega arith) (omega arith) (omega arith)

-- ---- digits

-- two bytes that are digits
module _ (s : List ℕ) (l : length s ≡ 2) (w : every is_digit s ≡ true) where
  pair : cut s 0 (0 + 2) ≡ s
  pair = rw l at (cut_all s)

  pub pair_first : is_digit (get_or s 0 0) ≡ true
  pair_first = every_head is_digit s 0 2 (rw pair w) (omega arith) refl

  pub pair_second : is_digit (get_or s 1 0) ≡ true
  pair_second = every_at is_digit s 0 2 (rw pair w) (omega arith) 1 refl

  pub two_value : some ((get_or s 0 0 - 48) * 10 + (get_or s 1 0 - 48)) ≡ digits s
  unfolding digits_from
  two_value = rw (← pair) (rw (cut_two s 0 (omega arith), pair_first, pair_second) (ap some (omega arith)))

  pub two_small : (get_or s 0 0 - 48) * 10 + (get_or s 1 0 - 48) < 100
  two_small = omega (arith, digit_small _ pair_first, digit_small _ pair_second)

-- at a place
module _ (s : List ℕ) (a : ℕ) (w : every is_digit (cut s a (a + 2)) ≡ true) (l : a + 2 ≤ length s) where
  pub first_digit : is_digit (get_or s a 0) ≡ true
  first_digit = every_head is_digit s a 2 w l refl

  pub second_digit : is_digit (get_or s (a + 1) 0) ≡ true
  second_digit = every_at is_digit s a 2 w l 1 refl

  pub two_digits : Valued s a 2 ((get_or s a 0 - 48) * 10 + (get_or s (a + 1) 0 - 48))
  unfolding digits_from
  two_digits = valued s a 2 _ l (rw (cut_two s a l, first_digit, second_digit) (ap some (omega arith)))

-- the room for one digit, for the tens, for both
pub digit_fits : (c : ℕ) → is_digit c ≡ true → c - 48 < 2 ^ 16
digit_fits c h = omega (arith, digit_small c h)

pub tens_fit : (c : ℕ) → is_digit c ≡ true → (c - 48) * 10 < 2 ^ 16
tens_fit c h = omega (arith, digit_small c h)

pub two_fit : (c d : ℕ) → is_digit c ≡ true → is_digit d ≡ true → (c - 48) * 10 + (d - 48) < 2 ^ 16
two_fit c d h k = omega (arith, digit_small c h, digit_small d k)

-- behind a number
two_behind : (c d x y : ℕ) → digits_from 0 (c ∷ d ∷ []) ≡ some y → digits_from x (c ∷ d ∷ []) ≡ some (x * 100 + y)
unfolding digits_from
two_behind c d x y h = go (is_digit c) (is_digit d) h
  where
    go : (s t : Bool) → cond s (cond t (some ((0 * 10 + (c - 48)) * 10 + (d - 48))) none) none ≡ some y → cond s (cond t (some ((x * 10 + (c - 48)) * 10 + (d - 48))) none) none ≡ some (x * 100 + y)
    go true true k = let e : (0 * 10 + (c - 48)) * 10 + (d - 48) ≡ y = cc in ap some (omega arith)
    go true false k = none_some k
    go false t k = none_some k

two_more : (s : List ℕ) (a k x y : ℕ) → Valued s a k x → Valued s (a + k) 2 y → a + k + 2 ≤ length s → Valued s a (k + 2) (x * 100 + y)
two_more s a k x y p q l =
    let e : a + (k + 2) ≡ a + k + 2 = omega arith in
    let c = cut_two s (a + k) l in
    valued s a (k + 2) (x * 100 + y) (omega arith)
    (rw (e, behind_digits digits_from digits_take s a k (a + k + 2) x p (omega arith), c) (sym (two_behind _ _ x y (sym (rw c at q.value)))))

-- ---- six bytes that are digits: those of the year, of the month, of the day

-- at a place
module _ (s : List ℕ) (a r : ℕ) (w : Passed is_digit s a 6 r) (h : 6 ≤ r) where
  pub year_digits : every is_digit (cut s a (a + 2)) ≡ true
  year_digits = every_front is_digit s a 6 (passed_all is_digit s a 6 r w h) 2 refl

  pub month_digits : every is_digit (cut s (a + 2) (a + 2 + 2)) ≡ true
  month_digits = every_piece is_digit s a 6 (passed_all is_digit s a 6 r w h) 2 2 refl

  pub day_digits : every is_digit (cut s (a + 4) (a + 4 + 2)) ≡ true
  day_digits = every_piece is_digit s a 6 (passed_all is_digit s a 6 r w h) 4 2 refl

-- alone
module _ (s : List ℕ) (h : length s ≡ 6) where
  whole : cut s 0 (0 + 6) ≡ s
  whole = rw h at (cut_all s)

  module _ (t : Bool) (u : t ≡ every is_digit s) where
    pub date_none : t ≡ false → none ≡ date s
    unfolding date
    date_none k = rw (eq-eqb _ _ h, ← every_none s (sym u ∙ k))

    module _ (k : t ≡ true) where
      pub six_year : every is_digit (take 2 s) ≡ true
      six_year = every_take is_digit 2 s (sym u ∙ k)

      pub six_month : every is_digit (take 2 (drop 2 s)) ≡ true
      six_month = every_take is_digit 2 (drop 2 s) (every_drop is_digit 2 s (sym u ∙ k))

      pub six_day : every is_digit (take 2 (drop 4 s)) ≡ true
      six_day = every_take is_digit 2 (drop 4 s) (every_drop is_digit 4 s (sym u ∙ k))

  module _ (y m d : ℕ) (e : some y ≡ digits (take 2 s)) (f : some m ≡ digits (take 2 (drop 2 s))) (g : some d ≡ digits (take 2 (drop 4 s))) (t : Bool) (u : t ≡ is_date y m d) where
    p : Valued s 0 2 y
    unfolding cut
    p = valued s 0 2 y (omega arith) e

    q : Valued s 2 2 m
    q = valued s 2 2 m (omega arith) (rw (part_cut s 2 4 (omega arith)) at f)

    r : Valued s 4 2 d
    r = valued s 4 2 d (omega arith) (rw (part_cut s 4 6 (omega arith)) at g)

    abbrev number : ℕ
    number = y * 10000 + (m * 100 + d)

    all_six : some number ≡ digits s
    all_six =
        let f : (y * 100 + m) * 100 + d ≡ number = omega arith in
        rw whole at ((rw f at (two_more s 0 4 (y * 100 + m) d (two_more s 0 2 y m p q (omega arith)) r (omega arith))).value)

    there : t ≡ exists number
    there = u ∙ exists_parts y m d number refl (omega (arith, p.small)) (omega (arith, q.small)) (omega (arith, r.small))

    pub date_there : t ≡ true → some number ≡ date s
    unfolding date
    date_there k = rw (eq-eqb _ _ h, ← all_six, ← there, k)

    pub date_absent : t ≡ false → none ≡ date s
    unfolding date
    date_absent k = rw (eq-eqb _ _ h, ← all_six, ← there, k)

-- of another length
pub date_other : (s : List ℕ) → (length s ≡ 6 → ⊥) → none ≡ date s
unfolding date
date_other s n = rw (ne_eqb _ _ n)

pub ruleset days = (row_leap, row_common, length_at, no_month, late_month, no_day, by_length, no_year, by_parts, digit_low, pair_first, pair_second, two_value, two_small, six_year, six_month, six_day, date_none, date_there, date_absent, date_other)
