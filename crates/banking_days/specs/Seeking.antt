-- The search for a day in a holiday list: in one that passes, date i stands at 7 i, and its six bytes are the digits of one number alone.
use Rattle.std.specs.Prelude.{◌≡◌, refl, Bool, true, false, ◌&&◌, not, cond, List, [], ◌∷◌, ◌++◌, leb, eqb, length, take, drop}
use Rattle.std.proofs.Common.{sym, ap, ◌∙◌, append-nil, drop_of_length-le, take_all, take_at, drop_at, drop-drop, leb-true}
use Rattle.std.proofs.Math.Option.{Option, none, some, get_or}
use Prim.Native.Nat.{ℕ, suc, ◌+◌, ◌-◌, ◌/◌, ◌≤◌, ◌<◌}
use native.Mathlib.Omega.{arith}
use Rattle.rules.specs.Text.{equal, fixed, over, then, given, is_some, read_each, any, ordered}
use Rattle.rules.specs.Dates.{exists, date}
use Rattle.rules.specs.Lines.{parted}
use Rattle.rules.specs.BankingDays.{earlier_date, holidays, holidays_of, is_weekend, is_listed, is_banking_day}
use Rattle.laws.specs.Parts.{from, from_all, from_drop}
use Rattle.laws.specs.Tests.{never}
use Rattle.laws.specs.Digits.{places_length}
use Rattle.laws.specs.Writing.{Wrote, wrote_over}
use Rattle.rule_laws.specs.Dates.{date_small, date_length}
use Rattle.rule_laws.specs.Commas.{PartsRead, PartsRead.one, PartsRead.next, parts_read}
use Rattle.rule_laws.specs.Holidays.{dates_length, longest_list, list_length}
use Rattle.banking_days.specs.SixDigits.{day_equal}
use Rattle.banking_days.specs.Lists.{among, stands_from, Listed, Banking}

-- ---- the loop: x is what the whole list is, and the dates from a place are left

module _ (six list : List ℕ) (at : ℕ) (x : Bool) (inv : stands_from six list at ≡ x) where
  pub stands_end : length list < at + 6 → false ≡ x
  unfolding stands_from among
  stands_end h = let e : (length list + 1 - at) / 7 ≡ 0 = omega arith in rw e at inv

  module _ (h : at + 6 ≤ length list) (t : Bool) (u : t ≡ equal (take (at + 6 - at) (drop at list)) six) where
    step : cond t true (stands_from six list (at + 7)) ≡ x
    unfolding stands_from among from
    step =
        let e : (length list + 1 - at) / 7 ≡ suc ((length list + 1 - (at + 7)) / 7) = omega arith in
        let n : at + 6 - at ≡ 6 = omega arith in
        let b : t ≡ equal (take 6 (from list at)) six = rw n at u in
        rw (b, ← from_drop list at 7) (rw e at inv)

    pub stands_found : t ≡ true → true ≡ x
    stands_found d = rw d at step

    pub stands_on : t ≡ false → stands_from six list (at + 7) ≡ x
    stands_on d = rw d at step

-- ---- a day of a list that passes

-- the dates of a text against a day's digits
among_dates : {cs ds : List ℕ} (day : ℕ) → day ≤ 999999 → PartsRead date cs ds → among (fixed 6 day) (length ds) cs ≡ any (eqb day) ds
unfolding among any
among_dates day l (one cs {v = d} h) = rw (take_all 6 cs (omega (arith, date_length cs d h)), day_equal cs d day h l)
among_dates day l (next p rest {v = d} {vs = ds} h r) =
    let k : length p ≡ 6 = date_length p d h in
    let e : drop 7 (p ++ 44 ∷ rest) ≡ rest = sym (drop-drop 1 6 (p ++ 44 ∷ rest)) ∙ ap (drop 1) (drop_at p (44 ∷ rest) 6 k) in
    rw (take_at p (44 ∷ rest) 6 k, day_equal p d day h l, e, among_dates day l r)

pub listed_long : (list : List ℕ) (day k : ℕ) → k < length list → leb longest_list k ≡ true → Listed list day false
listed_long list day k h l = record { same = λ p. absurd (omega (arith, list_length list p, leb-true longest_list k l)) }

stands_listed : (list : List ℕ) (day : ℕ) → day ≤ 999999 → is_some (holidays list) ≡ true → stands_from (fixed 6 day) list 0 ≡ is_listed (holidays_of list) day
unfolding stands_from among holidays holidays_of is_listed any
stands_listed [] day l h = refl
stands_listed (c ∷ cs) day l h = go (read_each date (parted (c ∷ cs))) (λ ds. parts_read date (c ∷ cs) ds) h
  where
    go : (o : Option (List ℕ)) → ((ds : List ℕ) → o ≡ some ds → PartsRead date (c ∷ cs) ds) → is_some (then o (λ ds. given (leb (length ds) 60 && ordered earlier_date ds) ds)) ≡ true
        → among (fixed 6 day) ((length (c ∷ cs) + 1 - 0) / 7) (from (c ∷ cs) 0) ≡ any (eqb day) (get_or (then o (λ ds. given (leb (length ds) 60 && ordered earlier_date ds) ds)) [])
    go none f k = never k
    go (some ds) f k =
        let r = f ds refl in
        let e : (length (c ∷ cs) + 1 - 0) / 7 ≡ length ds = omega (arith, dates_length r) in
        rw (e, from_all (c ∷ cs), among_dates day l r) (pick (leb (length ds) 60 && ordered earlier_date ds) k)
      where
        pick : (t : Bool) → is_some (given t ds) ≡ true → any (eqb day) ds ≡ any (eqb day) (get_or (given t ds) [])
        pick true q = refl
        pick false q = never q

pub listed_by : (list : List ℕ) (day : ℕ) {six out : List ℕ} {n : ℕ} (r : Bool) → exists day ≡ true → Wrote (fixed 6 day) 0 out n six → length out ≡ 6 → r ≡ stands_from six list 0 → Listed list day r
unfolding over
listed_by list day {six} {out} r l w o e =
    let a : six ≡ fixed 6 day ++ drop (length (fixed 6 day)) out = wrote_over w (omega (arith, places_length 10 48 6 day)) in
    let b : six ≡ fixed 6 day = a ∙ rw (drop_of_length-le out {i = length (fixed 6 day)} (omega (arith, places_length 10 48 6 day)), append-nil) in
    record { same = λ p. e ∙ rw b (stands_listed list day (let n : day < 1000000 = date_small day l in omega arith) p) }

pub banking_closed : (list : List ℕ) (day : ℕ) (t : Bool) → t ≡ is_weekend day → t ≡ true → Banking list day false
unfolding is_banking_day
banking_closed list day t u h = record { same = λ p. rw (← u, h) }

pub banking_by : (list : List ℕ) (day : ℕ) (t r : Bool) → t ≡ is_weekend day → t ≡ false → Listed list day r → Banking list day (not r)
unfolding is_banking_day
banking_by list day t r u h w = record { same = λ p. rw (← u, h, w.same p) }

pub ruleset seeks = (stands_end, stands_found, stands_on, listed_long, listed_by, banking_closed, banking_by)
