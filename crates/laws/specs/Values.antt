-- The number of bytes that are known to be digits: read place by place, and in two groups.
use Rattle.std.specs.Prelude.{◌≡◌, refl, Bool, true, false, cond, List, [], ◌∷◌, ◌++◌, ℕ, suc, ◌+◌, ◌-◌, ◌*◌, ◌^◌, ◌≤◌, ◌<◌, length, get_or}
use Rattle.std.proofs.Common.{sym, ◌∙◌, add-zero, mul_assoc, mul-one, pow-suc, lt_of_lt_of_le, arith, lit<, ne_eqb}
use Rattle.std.proofs.Math.Option.{Option, none, some}
use Rattle.std.proofs.Math.Nat.{pow-zero, pow-succ', pow-le-pow_right}
use Rattle.rules.specs.Text.{is_digit, every, digits, digits_from}
use Rattle.laws.specs.Parts.{cut, cut_length, cut_join}
use Rattle.laws.specs.Tests.{never, none_some}
use Rattle.laws.specs.Reading.{Placed, digit_low, digit_small, digits_more, digits_end}
use Rattle.laws.specs.Places.{Passed, passed_all}
use Rattle.laws.specs.Every.{every_first, every_within}
use Rattle.laws.specs.Numbers.{digits_small}

-- r is the number of the n digits at a place
pub record Valued (s : List ℕ) (a n r : ℕ) : Type 0 where
  pub value : some r ≡ digits (cut s a (a + n))
  pub small : r < 10 ^ n

pub valued : (s : List ℕ) (a n r : ℕ) → a + n ≤ length s → some r ≡ digits (cut s a (a + n)) → Valued s a n r
valued s a n r l e =
    let f : length (cut s a (a + n)) ≡ n = cut_length s a (a + n) l ∙ omega arith in
    record { value = e; small = rw f at (digits_small (cut s a (a + n)) r (sym e)) }

-- ---- place by place: k of the n digits are read, and v is their number

pub record Valuing (s : List ℕ) (a n k v : ℕ) : Type 0 where
  pub within : k ≤ n
  pub small : v < 10 ^ k
  pub each : every is_digit (cut s (a + k) (a + n)) ≡ true
  pub left : digits_from v (cut s (a + k) (a + n)) ≡ digits (cut s a (a + n))

pub valuing_start : (s : List ℕ) (a n : ℕ) → every is_digit (cut s a (a + n)) ≡ true → Valuing s a n 0 0
valuing_start s a n h = record { within = omega arith; small = rw pow-zero (lit< tt); each = rw add-zero h; left = rw add-zero }

module _ {s : List ℕ} {a n k v : ℕ} (w : Valuing s a n k v) where
  module _ (h : k < n) (l : a + n ≤ length s) where
    pub valuing_digit : is_digit (get_or s (a + k) 0) ≡ true
    valuing_digit = every_first is_digit s (a + k) (a + n) w.each (omega arith) l

    pub valuing_more : (r : ℕ) → Placed 10 v (get_or s (a + k) 0 - 48) r → Valuing s a n (k + 1) r
    valuing_more r p =
        let e : a + (k + 1) ≡ a + k + 1 = omega arith in
        let f : k + 1 ≡ suc k = omega arith in record {
          within = omega arith;
          small = rw (f, pow-suc) (omega (arith, w.small, p.value, p.digit));
          each = rw e (every_within is_digit s (a + k) (a + n) (a + k + 1) (a + n) w.each (omega arith) (omega arith) (omega arith));
          left = rw e (digits_more s (a + k) (a + n) v _ w.left (omega arith) l true (sym valuing_digit) refl r p);
        }

  -- there is room for one more of nine
  pub valuing_room : k < n → n ≤ 9 → v < 100000000
  valuing_room h l = lt_of_lt_of_le w.small (pow-le-pow_right (lit< tt) {i = k} {j = 8} (omega arith))

  pub valued_end : n ≤ k → Valued s a n v
  valued_end l =
      let e : k ≡ n = omega arith in record {
        value = digits_end s (a + k) (a + n) v _ w.left (omega arith) (omega arith);
        small = rw e at w.small;
      }

-- ---- one part behind the other

-- a function of a number and the bytes behind it that takes up digits one by one
pub record TakesDigits (f : ℕ → List ℕ → Option ℕ) : Type 0 where
  pub takes : (v c : ℕ) (cs : List ℕ) → is_digit c ≡ true → f v (c ∷ cs) ≡ f (v * 10 + (c - 48)) cs

pub digits_take : TakesDigits digits_from
unfolding digits_from
digits_take = record { takes = λ v c cs h. rw h }

-- it takes up digits as their number
pub taken_up : (f : ℕ → List ℕ → Option ℕ) → TakesDigits f → (xs ys : List ℕ) (v x : ℕ) → digits_from v xs ≡ some x → f v (xs ++ ys) ≡ f x ys
unfolding digits_from
taken_up f w [] ys v x h = let e : v ≡ x = cc in rw e
taken_up f w (c ∷ xs) ys v x h = go (is_digit c) refl h (taken_up f w xs ys (v * 10 + (c - 48)) x)
  where
    go : (t : Bool) → is_digit c ≡ t → cond t (digits_from (v * 10 + (c - 48)) xs) none ≡ some x → (digits_from (v * 10 + (c - 48)) xs ≡ some x → f (v * 10 + (c - 48)) (xs ++ ys) ≡ f x ys)
        → f v (c ∷ (xs ++ ys)) ≡ f x ys
    go true e g i = w.takes v c (xs ++ ys) e ∙ i g
    go false e g i = none_some g

pub behind_digits : (f : ℕ → List ℕ → Option ℕ) → TakesDigits f → (s : List ℕ) (a k b v : ℕ) → Valued s a k v → a + k ≤ b → f 0 (cut s a b) ≡ f v (cut s (a + k) b)
behind_digits f w s a k b v d h = rw (← cut_join s a k b h) (taken_up f w (cut s a (a + k)) (cut s (a + k) b) 0 v (sym d.value))

-- digits behind a number
digits_behind : (cs : List ℕ) (u w y : ℕ) → digits_from u cs ≡ some y → digits_from (w + u) cs ≡ some (w * 10 ^ length cs + y)
unfolding digits_from
digits_behind [] u w y h = let e : u ≡ y = cc in rw (e, pow-zero, mul-one)
digits_behind (c ∷ cs) u w y h = go (is_digit c) h (digits_behind cs (u * 10 + (c - 48)) (w * 10) y)
  where
    go : (t : Bool) → cond t (digits_from (u * 10 + (c - 48)) cs) none ≡ some y
        → (digits_from (u * 10 + (c - 48)) cs ≡ some y → digits_from (w * 10 + (u * 10 + (c - 48))) cs ≡ some (w * 10 * 10 ^ length cs + y))
        → cond t (digits_from ((w + u) * 10 + (c - 48)) cs) none ≡ some (w * 10 ^ suc (length cs) + y)
    go true g i =
        let e : (w + u) * 10 + (c - 48) ≡ w * 10 + (u * 10 + (c - 48)) = omega arith in
        rw (e, pow-succ' 10 (length cs), ← mul_assoc w 10 (10 ^ length cs)) (i g)
    go false g i = none_some g

-- two groups, the second of nine digits
pub valued_groups : (s : List ℕ) (a n x y : ℕ) → Valued s a (n - 9) x → Valued s (a + (n - 9)) 9 y → 9 < n → a + n ≤ length s → Valued s a n (x * 1000000000 + y)
valued_groups s a n x y p q h l =
    let e : a + (n - 9) + 9 ≡ a + n = omega arith in
    let m : length (cut s (a + (n - 9)) (a + n)) ≡ 9 = cut_length s (a + (n - 9)) (a + n) l ∙ omega arith in
    let d : digits (cut s (a + (n - 9)) (a + n)) ≡ some y = sym (rw e at q.value) in
    let g : digits_from (x + 0) (cut s (a + (n - 9)) (a + n)) ≡ some (x * 10 ^ length (cut s (a + (n - 9)) (a + n)) + y) = digits_behind _ 0 x y d in
    valued s a n (x * 1000000000 + y) l (sym (behind_digits digits_from digits_take s a (n - 9) (a + n) x p (omega arith) ∙ (rw (add-zero, m) at g)))

module _ (p : ℕ → Bool) (s : List ℕ) (a n : ℕ) (w : every p (cut s a (a + n)) ≡ true) where
  pub group_first : every p (cut s a (a + (n - 9))) ≡ true
  group_first = every_within p s a (a + n) a (a + (n - 9)) w (omega arith) (omega arith) (omega arith)

  pub group_last : 9 < n → every p (cut s (a + (n - 9)) (a + (n - 9) + 9)) ≡ true
  group_last h = every_within p s a (a + n) (a + (n - 9)) (a + (n - 9) + 9) w (omega arith) (omega arith) (omega arith)

-- a number's digits
pub digits_each : (cs : List ℕ) (v n : ℕ) → digits_from v cs ≡ some n → every is_digit cs ≡ true
unfolding every digits_from
digits_each [] v n h = refl
digits_each (c ∷ cs) v n h = go (is_digit c) h (digits_each cs (v * 10 + (c - 48)) n)
  where
    go : (t : Bool) → cond t (digits_from (v * 10 + (c - 48)) cs) none ≡ some n → (digits_from (v * 10 + (c - 48)) cs ≡ some n → every is_digit cs ≡ true)
        → cond t (every is_digit cs) false ≡ true
    go true g i = i g
    go false g i = none_some g

-- not all bytes are digits: no number
digits_none : (cs : List ℕ) (v : ℕ) → every is_digit cs ≡ false → digits_from v cs ≡ none
unfolding every digits_from
digits_none [] v h = never (sym h)
digits_none (c ∷ cs) v h = go (is_digit c) h (digits_none cs (v * 10 + (c - 48)))
  where
    go : (t : Bool) → cond t (every is_digit cs) false ≡ false → (every is_digit cs ≡ false → digits_from (v * 10 + (c - 48)) cs ≡ none)
        → cond t (digits_from (v * 10 + (c - 48)) cs) none ≡ none
    go true g i = i g
    go false g i = refl

pub every_none : (cs : List ℕ) → every is_digit cs ≡ false → none ≡ digits cs
every_none cs h = sym (digits_none cs 0 h)

pub passed_none : (s : List ℕ) (a n r : ℕ) → Passed is_digit s a n r → r < n → none ≡ digits (cut s a (a + n))
passed_none s a n r w l = sym (digits_none (cut s a (a + n)) 0 (sym w.whole ∙ ne_eqb r n (λ (q : r ≡ n). omega arith)))

-- a part read by its ends
module _ (s : List ℕ) (a b r : ℕ) (h : a ≤ b) where
  pub read_none : Passed is_digit s a (b - a) r → r < b - a → none ≡ digits (cut s a b)
  read_none w l = let e : a + (b - a) ≡ b = omega arith in rw e at (passed_none s a (b - a) r w l)

  pub read_valued : Valued s a (b - a) r → some r ≡ digits (cut s a b)
  read_valued w = let e : a + (b - a) ≡ b = omega arith in rw e at w.value

pub ruleset valuing = (digit_low, digit_small, valuing_start, valuing_digit, valuing_more, valuing_room, valued_end, valued_groups, group_first, group_last, passed_all, read_none, read_valued)
