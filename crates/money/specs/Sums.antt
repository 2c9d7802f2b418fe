-- Reading an amount, one law for each way that the code goes; and how large an amount can be.
use Rattle.std.specs.Prelude.{◌≡◌, refl, Bool, true, false, ◌&&◌, cond, List, [], ◌∷◌, ℕ, suc, ◌+◌, ◌-◌, ◌*◌, ◌^◌, ◌≤◌, ◌<◌, leb, eqb, length, get_or, take, drop}
use Rattle.std.specs.List.{prefix_len}
use Rattle.std.proofs.Common.{◌∙◌, add-zero, zero-add, length-drop, one-mul, mul_comm, mul_assoc, mul-le-mul_left, mul-le-mul_right, pow-suc, lt_of_lt_of_le, arith}
use Rattle.std.proofs.Math.Option.{Option, none, some}
use Rattle.std.proofs.Math.Seq.{get_or-drop}
use Rattle.std.proofs.Math.Nat.{pow-le-pow_right}
use borrow.Author.Tests.{leb-true, le-leb, lt-leb, eq-eqb, ne_eqb}
use Rattle.rules.specs.Text.{digits, is_digit, every}
use Rattle.rules.specs.Amounts.{decimals, levs, amount}
use Rattle.laws.specs.Parts.{cut, cut_all, from, from_cut}
use Rattle.laws.specs.Front.{front_passed_all}
use Rattle.laws.specs.Slices.{rest_whole}
use Rattle.laws.specs.Tests.{holds_told, none_some}
use Rattle.laws.specs.Reading.{digit_small, digit_low}
use Rattle.laws.specs.Places.{Passed}
use Rattle.laws.specs.Values.{Valued, valued, TakesDigits, behind_digits}

-- ---- behind the comma: none, one, two or more bytes, each a clause of the definition

pub decimals_none : (s : List ℕ) (v : ℕ) → length s < 1 → some (v * 100) ≡ decimals v s
unfolding decimals
decimals_none [] v h = refl
decimals_none (c ∷ s) v h = absurd (omega arith)

module _ (t : Bool) where
  pub decimals_one : (s : List ℕ) (v : ℕ) → 1 ≤ length s → length s < 2 → t ≡ is_digit (get_or s 0 0) → t ≡ true → some (v * 100 + (get_or s 0 0 - 48) * 10) ≡ decimals v s
  unfolding decimals
  decimals_one [] v h k u e = absurd (omega arith)
  decimals_one (c ∷ []) v h k u e = rw (← u, e)
  decimals_one (c ∷ d ∷ s) v h k u e = absurd (omega arith)

  pub decimals_first : (s : List ℕ) (v : ℕ) → 1 ≤ length s → t ≡ is_digit (get_or s 0 0) → t ≡ false → none ≡ decimals v s
  unfolding decimals
  decimals_first [] v h u e = absurd (omega arith)
  decimals_first (c ∷ []) v h u e = rw (← u, e)
  decimals_first (c ∷ d ∷ []) v h u e = rw (← u, e)
  decimals_first (c ∷ d ∷ f ∷ s) v h u e = refl

  module _ (q : Bool) where
    pub decimals_two : (s : List ℕ) (v : ℕ) → 2 ≤ length s → length s < 3 → t ≡ is_digit (get_or s 0 0) → t ≡ true → q ≡ is_digit (get_or s 1 0) → q ≡ true
        → some (v * 100 + (get_or s 0 0 - 48) * 10 + (get_or s 1 0 - 48)) ≡ decimals v s
    unfolding decimals
    decimals_two [] v h k u e w g = absurd (omega arith)
    decimals_two (c ∷ []) v h k u e w g = absurd (omega arith)
    decimals_two (c ∷ d ∷ []) v h k u e w g = rw (← u, e, ← w, g)
    decimals_two (c ∷ d ∷ f ∷ s) v h k u e w g = absurd (omega arith)

    pub decimals_second : (s : List ℕ) (v : ℕ) → 2 ≤ length s → t ≡ is_digit (get_or s 0 0) → t ≡ true → q ≡ is_digit (get_or s 1 0) → q ≡ false → none ≡ decimals v s
    unfolding decimals
    decimals_second [] v h u e w g = absurd (omega arith)
    decimals_second (c ∷ []) v h u e w g = absurd (omega arith)
    decimals_second (c ∷ d ∷ []) v h u e w g = rw (← u, e, ← w, g)
    decimals_second (c ∷ d ∷ f ∷ s) v h u e w g = refl

pub decimals_long : (s : List ℕ) (v : ℕ) → 3 ≤ length s → none ≡ decimals v s
unfolding decimals
decimals_long [] v h = absurd (omega arith)
decimals_long (c ∷ []) v h = absurd (omega arith)
decimals_long (c ∷ d ∷ []) v h = absurd (omega arith)
decimals_long (c ∷ d ∷ e ∷ s) v h = refl

-- ---- before it: the first k bytes are digits, and v is their number

levs_take : TakesDigits levs
unfolding levs
levs_take = record { takes = λ v c cs h. rw h }

levs_empty : (s : List ℕ) (v : ℕ) → length s < 1 → none ≡ levs v s
unfolding levs
levs_empty [] v h = refl
levs_empty (c ∷ s) v h = absurd (omega arith)

levs_other : (s : List ℕ) (v : ℕ) → 1 ≤ length s → is_digit (get_or s 0 0) ≡ false → levs v s ≡ cond (eqb (get_or s 0 0) 44) (decimals v (drop 1 s)) none
unfolding levs
levs_other [] v h d = absurd (omega arith)
levs_other (c ∷ s) v h d = rw d refl

module _ (s : List ℕ) (k : ℕ) (e : k ≡ prefix_len is_digit s) where
  p : Passed is_digit s 0 (length s) k
  p = front_passed_all is_digit s k e

  pub levs_digits : every is_digit (take k s) ≡ true
  unfolding cut
  levs_digits = rw zero-add at p.front

  module _ (v : ℕ) (d : some v ≡ digits (take k s)) where
    w : Valued s 0 k v
    unfolding cut
    w = valued s 0 k v (omega (arith, p.within)) (rw zero-add d)

    behind : levs 0 s ≡ levs v (drop k s)
    unfolding from
    behind =
        let d : levs 0 (cut s 0 (length s)) ≡ levs v (cut s (0 + k) (length s)) = behind_digits levs levs_take s 0 k (length s) v w (omega (arith, p.within)) in
        rw (cut_all, from_cut s (0 + k) (length s) (omega arith), zero-add) at d

    byte : 1 ≤ length (drop k s) → levs 0 s ≡ cond (eqb (get_or (drop k s) 0 0) 44) (decimals v (drop 1 (drop k s))) none
    byte h =
        let n : k < length s = omega (arith, length-drop k s) in
        let q : is_digit (get_or (drop k s) 0 0) ≡ false = rw (get_or-drop k s 0 0, add-zero) (rw zero-add at (p.next n)) in
        behind ∙ levs_other (drop k s) v h q

    -- q is what stands behind them
    module _ (q : List ℕ) (z : q ≡ drop k s) where
      pub levs_end : length q < 1 → none ≡ levs 0 s
      levs_end h = rw behind (levs_empty (drop k s) v (rw z at h))

      module _ (h : 1 ≤ length q) where
        pub levs_comma : get_or q 0 0 ≡ 44 → (o : Option ℕ) → o ≡ decimals v (take (length q - 1) (drop 1 q)) → o ≡ levs 0 s
        levs_comma c o d = rw (byte (rw z at h), ← z, eq-eqb _ _ c) (rw (rest_whole q 1) at d)

        pub levs_bad : (get_or q 0 0 ≡ 44 → ⊥) → none ≡ levs 0 s
        levs_bad c = rw (byte (rw z at h), ← z, ne_eqb _ _ c)

        -- the levs before the comma leave room for the stotinki
        pub levs_room : length s ≤ 15 → v < 10 ^ 14
        levs_room m = let l : 1 ≤ length (drop k s) = rw z at h in lt_of_lt_of_le w.small (pow-le-pow_right (omega arith) {i = k} {j = 14} (omega (arith, length-drop k s)))

-- ---- the whole

module _ (s : List ℕ) where
  pub amount_long : 15 < length s → none ≡ amount s
  unfolding amount
  amount_long l = rw (lt-leb _ _ l)

  module _ (t : Bool) (u : t ≡ is_digit (get_or s 0 0)) where
    pub amount_head : t ≡ false → length s ≤ 15 → none ≡ amount s
    unfolding amount
    amount_head d l = rw (le-leb _ _ l, ← u, d)

    pub amount_levs : length s ≤ 15 → t ≡ true → (o : Option ℕ) → o ≡ levs 0 s → o ≡ amount s
    unfolding amount
    amount_levs l d o w = rw (le-leb _ _ l, ← u, d) w

pub amount_empty : (s : List ℕ) → length s < 1 → none ≡ amount s
unfolding amount is_digit
amount_empty [] h = refl
amount_empty (c ∷ s) h = absurd (omega arith)

-- ---- how large an amount can be

decimals_bound : (cs : List ℕ) (v n : ℕ) → decimals v cs ≡ some n → n < suc v * 100
unfolding decimals
decimals_bound [] v n h = let e : v * 100 ≡ n = cc in omega arith
decimals_bound (c ∷ []) v n h = one (is_digit c) refl h
  where
    one : (t : Bool) → is_digit c ≡ t → cond t (some (v * 100 + (c - 48) * 10)) none ≡ some n → n < suc v * 100
    one true d g = let l : c - 48 < 10 = digit_small c d in let e : v * 100 + (c - 48) * 10 ≡ n = cc in omega arith
    one false d g = none_some g
decimals_bound (c ∷ d ∷ []) v n h = two (is_digit c) (is_digit d) refl refl h
  where
    two : (t u : Bool) → is_digit c ≡ t → is_digit d ≡ u → cond (t && u) (some (v * 100 + (c - 48) * 10 + (d - 48))) none ≡ some n → n < suc v * 100
    two true true p q g =
        let l : c - 48 < 10 = digit_small c p in
        let m : d - 48 < 10 = digit_small d q in
        let e : v * 100 + (c - 48) * 10 + (d - 48) ≡ n = cc in
        omega arith
    two true false p q g = none_some g
    two false u p q g = none_some g
decimals_bound (c ∷ d ∷ e ∷ es) v n h = none_some h

-- a bound on what is read with one place more is the bound of one power more
place_more : (v d n k : ℕ) → d < 10 → n < suc (v * 10 + d) * 10 ^ k → n < suc v * 10 ^ suc k
place_more v d n k l b =
    let m : suc (v * 10 + d) * 10 ^ k ≤ suc v * 10 * 10 ^ k = mul-le-mul_right (10 ^ k) (omega arith) in
    rw (pow-suc, mul_comm (10 ^ k) 10, ← mul_assoc (suc v) 10 (10 ^ k)) (lt_of_lt_of_le b m)

levs_bound : (cs : List ℕ) (v n : ℕ) → levs v cs ≡ some n → n < suc v * 10 ^ suc (length cs)
unfolding levs
levs_bound [] v n h = none_some h
levs_bound (c ∷ cs) v n h = go (is_digit c) (eqb c 44) refl h (levs_bound cs (v * 10 + (c - 48)) n)
  where
    go : (t u : Bool) → is_digit c ≡ t → cond t (levs (v * 10 + (c - 48)) cs) (cond u (decimals v cs) none) ≡ some n
        → (levs (v * 10 + (c - 48)) cs ≡ some n → n < suc (v * 10 + (c - 48)) * 10 ^ suc (length cs)) → n < suc v * 10 ^ suc (suc (length cs))
    go true u d g f = place_more v (c - 48) n (suc (length cs)) (digit_small c d) (f g)
    go false true d g f = let p : 10 ^ 2 ≤ 10 ^ suc (suc (length cs)) = pow-le-pow_right (omega arith) {i = 2} {j = suc (suc (length cs))} (omega arith) in lt_of_lt_of_le (decimals_bound cs v n g) (mul-le-mul_left (suc v) p)
    go false false d g f = none_some g

pub amount_small : (cs : List ℕ) (n : ℕ) → amount cs ≡ some n → n < 10 ^ 16
unfolding amount
amount_small cs n h = go (leb (length cs) 15) (is_digit (get_or cs 0 0)) refl h
  where
    go : (t u : Bool) → leb (length cs) 15 ≡ t → cond (t && u) (levs 0 cs) none ≡ some n → n < 10 ^ 16
    go true true l g =
        let k : length cs ≤ 15 = leb-true _ _ l in
        let b : n < 1 * 10 ^ suc (length cs) = levs_bound cs 0 n g in
        lt_of_lt_of_le (rw one-mul at b) (pow-le-pow_right (omega arith) {i = suc (length cs)} {j = 16} (omega arith))
    go true false l g = none_some g
    go false u l g = none_some g

pub ruleset sums = (
  decimals_none,
  decimals_one,
  decimals_first,
  decimals_two,
  decimals_second,
  decimals_long,
  levs_digits,
  levs_comma,
  levs_bad,
  levs_end,
  levs_room,
  amount_long,
  amount_empty,
  amount_head,
  amount_levs,
  rest_whole,
  holds_told,
  digit_low,
)
