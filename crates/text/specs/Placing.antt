-- A number read place by place from a whole text, in base ten and in bytes.
use Rattle.std.specs.Prelude.{◌≡◌, refl, true, List, ◌∷◌, ℕ, suc, ◌+◌, ◌-◌, ◌*◌, ◌^◌, ◌≤◌, ◌<◌, length, get_or, take, drop}
use Rattle.std.proofs.Common.{sym, ◌∙◌, zero-add, suc-mul, pow-suc, length-take-le, length-drop, mul-le-mul_right, lt_of_lt_of_le, arith, lit<}
use Rattle.std.proofs.Math.Option.{some}
use Rattle.std.proofs.Math.Nat.{pow-zero, pow-le-pow_right}
use Rattle.std.proofs.Math.Seq.{take-length}
use Rattle.rules.specs.Text.{is_digit, every, digits, digits_from, big_endian, number_from}
use Rattle.laws.specs.Parts.{cut, from, from_step, from_done, from_all, cut_all}
use Rattle.laws.specs.Reading.{digit_low, digit_small}
use Rattle.laws.specs.Tests.{cond_left}
use Rattle.laws.specs.Every.{every_take, every_drop}
use Rattle.laws.specs.Values.{Valued, valued, valued_groups}
use Rattle.laws.specs.Slices.{rest_whole}

-- v is the number of the first k bytes, to a base, and f of it and the bytes behind is f of all
pub record Placing {A : Type 0} (base : ℕ) (f : ℕ → List ℕ → A) (s : List ℕ) (k v : ℕ) : Type 0 where
  pub small : v < base ^ k
  pub left : f v (from s k) ≡ f 0 s

module _ {A : Type 0} (base : ℕ) (f : ℕ → List ℕ → A) (s : List ℕ) where
  placing_start : Placing base f s 0 0
  placing_start = record { small = rw pow-zero (lit< tt); left = rw (from_all s) }

  module _ (k v : ℕ) (w : Placing base f s k v) where
    -- a number of few places leaves room for one more
    placing_room : (n : ℕ) → 0 < base → k ≤ n → v < base ^ n
    placing_room n b h = lt_of_lt_of_le w.small (pow-le-pow_right b h)

    placing_more : (d r : ℕ) → k < length s → d < base → r ≡ v * base + d → f v (get_or s k 0 ∷ from s (k + 1)) ≡ f r (from s (k + 1)) → Placing base f s (k + 1) r
    placing_more d r h b e g =
        let n : k + 1 ≡ suc k = omega arith in
        let m : suc v * base ≤ base ^ k * base = mul-le-mul_right base w.small in record {
          small = rw (n, pow-suc) (omega (arith, suc-mul v base, m, e, b));
          left = sym g ∙ rw (← from_step s k h) w.left;
        }

-- ---- in base ten

abbrev pub Digits : List ℕ → ℕ → ℕ → Type 0
Digits s k v = Placing 10 digits_from s k v

-- each of some digits
every_at : (s : List ℕ) (k : ℕ) → every is_digit s ≡ true → k < length s → is_digit (get_or s k 0) ≡ true
unfolding every from
every_at s k h l = every_head (every_drop is_digit k s h)
  where
    every_head : every is_digit (drop k s) ≡ true → is_digit (get_or s k 0) ≡ true
    every_head w = cond_left _ _ (rw (from_step s k l) at w)

module _ (s : List ℕ) where
  pub digits_start : Digits s 0 0
  digits_start = placing_start 10 digits_from s

  module _ (k v : ℕ) (w : Digits s k v) where
    module _ (h : k < length s) where
      pub digits_low : every is_digit s ≡ true → 48 ≤ get_or s k 0
      digits_low e = digit_low (get_or s k 0) (every_at s k e h)

      pub digits_room : length s ≤ 9 → v < 100000000
      digits_room l = placing_room 10 digits_from s k v w 8 (lit< tt) (omega arith)

      pub digits_on : every is_digit s ≡ true → Digits s (k + 1) (v * 10 + (get_or s k 0 - 48))
      unfolding digits_from
      digits_on e = let d : is_digit (get_or s k 0) ≡ true = every_at s k e h in placing_more 10 digits_from s k v w (get_or s k 0 - 48) _ h (digit_small (get_or s k 0) d) refl (rw d)

    pub digits_value : length s ≤ k → some v ≡ digits s
    unfolding digits_from
    digits_value h = rw (from_done s k h) at w.left

    pub digits_below : k ≤ length s → v < 10 ^ length s
    digits_below h = placing_room 10 digits_from s k v w (length s) (lit< tt) h

-- ---- in bytes

abbrev pub Bytes : List ℕ → ℕ → ℕ → Type 0
Bytes s k v = Placing 256 number_from s k v

module _ (s : List ℕ) where
  pub bytes_start : Bytes s 0 0
  bytes_start = placing_start 256 number_from s

  module _ (k v : ℕ) (w : Bytes s k v) where
    module _ (h : k < length s) where
      pub bytes_room : length s ≤ 8 → v < 72057594037927936
      bytes_room l = placing_room 256 number_from s k v w 7 (lit< tt) (omega arith)

      pub bytes_on : get_or s k 0 < 256 → Bytes s (k + 1) (v * 256 + get_or s k 0)
      unfolding number_from
      bytes_on b = placing_more 256 number_from s k v w (get_or s k 0) _ h b refl refl

    pub bytes_value : length s ≤ k → v ≡ big_endian s
    unfolding number_from
    bytes_value h = rw (from_done s k h) at w.left

    pub bytes_below : k ≤ length s → v < 256 ^ length s
    bytes_below h = placing_room 256 number_from s k v w (length s) (lit< tt) h

pub ruleset placing = (digits_start, digits_low, digits_room, digits_on, digits_value, digits_below, bytes_start, bytes_room, bytes_on, bytes_value, bytes_below)

-- ---- two groups of digits, the second of nine

module _ (s : List ℕ) (h : 9 < length s) where
  pub front_digits : every is_digit s ≡ true → every is_digit (take (length s - 9) s) ≡ true
  front_digits e = every_take is_digit (length s - 9) s e

  pub behind_digits : every is_digit s ≡ true → every is_digit (take (length s - (length s - 9)) (drop (length s - 9) s)) ≡ true
  behind_digits e = rw (rest_whole s (length s - 9)) (every_drop is_digit (length s - 9) s e)

  module _ (x y : ℕ) (p : some x ≡ digits (take (length s - 9) s)) (q : some y ≡ digits (take (length s - (length s - 9)) (drop (length s - 9) s))) where
    grouped : Valued s 0 (length s) (x * 1000000000 + y)
    unfolding cut
    grouped =
        let e : 0 + (length s - 9) + 9 ≡ length s = omega arith in
        let f : some x ≡ digits (cut s 0 (0 + (length s - 9))) = rw zero-add p in
        let g : some y ≡ digits (cut s (0 + (length s - 9)) (0 + (length s - 9) + 9)) = rw (e, zero-add, take-length s) (rw (rest_whole s (length s - 9)) at q) in
        valued_groups s 0 (length s) x y (valued s 0 (length s - 9) x (omega arith) f) (valued s (0 + (length s - 9)) 9 y (omega arith) g) h (omega arith)

    pub groups_value : some (x * 1000000000 + y) ≡ digits s
    groups_value = rw (zero-add, cut_all s) at grouped.value

    pub groups_below : x * 1000000000 + y < 10 ^ length s
    groups_below = grouped.small

pub ruleset groups = (front_digits, behind_digits, groups_value, groups_below)
