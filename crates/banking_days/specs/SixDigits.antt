-- Six digits against those of a number: the bytes of a date are the digits of a day exactly where it is the day.
use Rattle.std.specs.Prelude.{◌≡◌, refl, Bool, true, false, cond, List, [], ◌∷◌, ℕ, ◌+◌, ◌-◌, ◌*◌, ◌≤◌, eqb, length}
use Rattle.std.proofs.Common.{sym, ◌∙◌, arith, eqb-true, eq-eqb}
use Rattle.std.proofs.Math.Option.{none, some}
use Rattle.rules.specs.Text.{is_digit, equal, digits, digits_from, fixed}
use Rattle.rules.specs.Dates.{date}
use Rattle.laws.specs.Tests.{none_some, either}
use Rattle.laws.specs.Equal.{equal_true, equal_same}
use Rattle.laws.specs.Reading.{digit_low, digit_high}
use Rattle.laws.specs.Digits.{places_length}
use Rattle.laws.specs.Numbers.{digits_fixed}
use Rattle.rule_laws.specs.Options.{some_is}
use Rattle.rule_laws.specs.Dates.{date_length, date_digits}

-- digits of one length and number are the same
record SameDigits (v w : ℕ) (p q : List ℕ) : Type 0 where
  number : v ≡ w
  text : p ≡ q

same_digits : (p q : List ℕ) (v w n : ℕ) → length p ≡ length q → digits_from v p ≡ some n → digits_from w q ≡ some n → SameDigits v w p q
unfolding digits_from
same_digits [] [] v w n l h k = let e : v ≡ w = cc in record { number = e; text = refl }
same_digits [] (d ∷ q) v w n l h k = absurd (omega arith)
same_digits (c ∷ p) [] v w n l h k = absurd (omega arith)
same_digits (c ∷ p) (d ∷ q) v w n l h k = go (is_digit c) (is_digit d) refl refl (same_digits p q (v * 10 + (c - 48)) (w * 10 + (d - 48)) n (omega arith)) h k
  where
    go : (s t : Bool) → is_digit c ≡ s → is_digit d ≡ t
        → (digits_from (v * 10 + (c - 48)) p ≡ some n → digits_from (w * 10 + (d - 48)) q ≡ some n → SameDigits (v * 10 + (c - 48)) (w * 10 + (d - 48)) p q)
        → cond s (digits_from (v * 10 + (c - 48)) p) none ≡ some n → cond t (digits_from (w * 10 + (d - 48)) q) none ≡ some n
        → SameDigits v w (c ∷ p) (d ∷ q)
    go false t e f g h k = none_some h
    go true false e f g h k = none_some k
    go true true e f g h k =
        let r = g h k in
        let a : c ≡ d = omega (arith, digit_low c e, digit_high c e, digit_low d f, digit_high d f, r.number) in
        record { number = omega (arith, digit_low c e, digit_high c e, digit_low d f, digit_high d f, r.number); text = rw (a, r.text) }

pub day_equal : (p : List ℕ) (d day : ℕ) → date p ≡ some d → day ≤ 999999 → equal p (fixed 6 day) ≡ eqb day d
day_equal p d day h l = either (equal p (fixed 6 day)) (eqb day d) there back
  where
    read : digits (fixed 6 day) ≡ some day
    read = digits_fixed 6 day (omega arith)

    there : equal p (fixed 6 day) ≡ true → eqb day d ≡ true
    there e =
        let a : digits p ≡ some day = rw (equal_true p (fixed 6 day) e) read in
        let b : day ≡ d = some_is (sym a ∙ date_digits p d h) in
        eq-eqb day d b

    back : eqb day d ≡ true → equal p (fixed 6 day) ≡ true
    back e =
        let a : digits p ≡ some day = rw (eqb-true day d e) (date_digits p d h) in
        rw (same_digits p (fixed 6 day) 0 0 day (date_length p d h ∙ sym (places_length 10 48 6 day)) a read).text (equal_same (fixed 6 day))
