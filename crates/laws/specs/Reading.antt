-- Reading a part byte by byte: what is left of the part gives the answer, a law for each way on and out of the loop.
use Rattle.std.specs.Prelude.{◌≡◌, refl, Bool, true, false, cond, List, [], ◌∷◌, ◌++◌, ℕ, suc, ◌+◌, ◌-◌, ◌*◌, ◌^◌, ◌≤◌, ◌<◌, min, length, get_or, take, drop, eqb}
use Rattle.std.proofs.Common.{sym, ap, ◌∙◌, zero-add, add-zero, suc-mul, pow-suc, mul-le-mul_right, lt_of_lt_of_le, arith, lit<}
use Rattle.std.proofs.Math.Option.{Option, none, some}
use Rattle.std.proofs.Math.Nat.{pow-zero, pow-le-pow_right}
use borrow.Author.Tests.{le-leb, lt-leb}
use Rattle.rules.specs.Text.{is_digit, every, run, equal, fits, fits_sign, digits_from, number_from}
use Rattle.laws.specs.Parts.{cut, cut_step, cut_done, cut_length, cut_size, cut_all}
use Rattle.laws.specs.Tests.{between_low, between_high, cond_left, cond_right, cond_both, not_holds, holds_told, never}

-- ---- any function of what is left: one byte on, and at the end

module _ {A : Type 0} (f : List ℕ → A) (s : List ℕ) (i e : ℕ) (x : A) (inv : f (cut s i e) ≡ x) where
  pub left_step : i < e → e ≤ length s → f (get_or s i 0 ∷ cut s (i + 1) e) ≡ x
  left_step h k = sym (ap f (cut_step s i e h k)) ∙ inv

  pub left_done : i ≤ e → e ≤ i → f [] ≡ x
  left_done h k = sym (ap f (cut_done s i e h k)) ∙ inv

-- ---- each byte passes a test

module _ (p : ℕ → Bool) (s : List ℕ) (i e : ℕ) (x : Bool) (inv : every p (cut s i e) ≡ x) where
  module _ (h : i < e) (k : e ≤ length s) (t : Bool) (u : t ≡ p (get_or s i 0)) where
    pub every_more : t ≡ true → every p (cut s (i + 1) e) ≡ x
    unfolding every
    every_more d = rw (← u, d) at (left_step (every p) s i e x inv h k)

    pub every_bad : t ≡ false → false ≡ x
    unfolding every
    every_bad d = rw (← u, d) at (left_step (every p) s i e x inv h k)

  pub every_end : i ≤ e → e ≤ i → true ≡ x
  unfolding every
  every_end h k = left_done (every p) s i e x inv h k

-- low to high bytes
module _ (p : ℕ → Bool) (s : List ℕ) (a b low high : ℕ) (k : b ≤ length s) where
  pub run_short : b - a < low → false ≡ run p low high (cut s a b)
  unfolding run
  run_short h = rw (cut_length s a b k, lt-leb low (b - a) h)

  module _ (l : low ≤ b - a) where
    pub run_long : high < b - a → false ≡ run p low high (cut s a b)
    unfolding run
    run_long h = rw (cut_length s a b k, le-leb low (b - a) l, lt-leb (b - a) high h)

    pub run_each : b - a ≤ high → (r : Bool) → r ≡ every p (cut s a b) → r ≡ run p low high (cut s a b)
    unfolding run
    run_each h r e = rw (cut_length s a b k, le-leb low (b - a) l, le-leb (b - a) high h) e

-- ---- two parts of one length compared with each other

-- a test of two texts, byte by byte, and its test of two bytes
pub record Pairs (g : List ℕ → List ℕ → Bool) (p : ℕ → ℕ → Bool) : Type 0 where
  pub ends : g [] [] ≡ true
  pub steps : (c d : ℕ) (cs ds : List ℕ) → g (c ∷ cs) (d ∷ ds) ≡ cond (p c d) (g cs ds) false

pub equal_pairs : Pairs equal eqb
unfolding equal
equal_pairs = record { ends = refl; steps = λ c d cs ds. refl }

pub fits_pairs : Pairs fits fits_sign
unfolding fits
fits_pairs = record { ends = refl; steps = λ c d cs ds. refl }

module _ (g : List ℕ → List ℕ → Bool) (p : ℕ → ℕ → Bool) (w : Pairs g p) (s t : List ℕ) (a b n k : ℕ) (x : Bool) (inv : g (cut s (a + k) (a + n)) (cut t (b + k) (b + n)) ≡ x) where
  module _ (h : k < n) (l : a + n ≤ length s) (m : b + n ≤ length t) (q : Bool) (u : q ≡ p (get_or s (a + k) 0) (get_or t (b + k) 0)) where
    both : cond q (g (cut s (a + (k + 1)) (a + n)) (cut t (b + (k + 1)) (b + n))) false ≡ x
    both =
        let e : a + (k + 1) ≡ a + k + 1 = omega arith in
        let f : b + (k + 1) ≡ b + k + 1 = omega arith in
        rw (e, f, u, ← w.steps, ← cut_step s (a + k) (a + n) (omega arith) l, ← cut_step t (b + k) (b + n) (omega arith) m) inv

    pub pairs_more : q ≡ true → g (cut s (a + (k + 1)) (a + n)) (cut t (b + (k + 1)) (b + n)) ≡ x
    pairs_more d = rw d at both

    pub pairs_bad : q ≡ false → false ≡ x
    pairs_bad d = rw d at both

  pub pairs_end : k ≤ n → n ≤ k → true ≡ x
  pairs_end h l = sym w.ends ∙ (rw (cut_done s (a + k) (a + n) (omega arith) (omega arith), cut_done t (b + k) (b + n) (omega arith) (omega arith)) at inv)

-- bytes fit a pattern only where there are as many
pub fits_length : (ps cs : List ℕ) → fits ps cs ≡ true → length ps ≡ length cs
unfolding fits
fits_length [] [] h = refl
fits_length [] (c ∷ cs) h = never h
fits_length (p ∷ ps) [] h = never h
fits_length (p ∷ ps) (c ∷ cs) h = ap suc (fits_length ps cs (cond_right (fits_sign p c) (fits ps cs) h))

-- one pattern behind the other: its front, and the rest
pub fits_front : (a b cs : List ℕ) → fits (a ++ b) cs ≡ true → fits a (take (length a) cs) ≡ true
unfolding fits
fits_front [] b cs h = refl
fits_front (p ∷ a) b [] h = h
fits_front (p ∷ a) b (c ∷ cs) h = cond_both _ _ (cond_left (fits_sign p c) (fits (a ++ b) cs) h) (fits_front a b cs (cond_right (fits_sign p c) (fits (a ++ b) cs) h))

pub fits_behind : (a b cs : List ℕ) → fits (a ++ b) cs ≡ true → fits b (drop (length a) cs) ≡ true
unfolding fits
fits_behind [] b cs h = h
fits_behind (p ∷ a) b [] h = never h
fits_behind (p ∷ a) b (c ∷ cs) h = fits_behind a b cs (cond_right (fits_sign p c) (fits (a ++ b) cs) h)

module _ (p s : List ℕ) (at : ℕ) where
  -- too few bytes are left
  pub fits_short : length s - at < length p → false ≡ fits p (cut s at (at + length p))
  fits_short h = not_holds _ (λ e. let l : length (cut s at (at + length p)) ≡ min (at + length p) (length s) - at = cut_size s at (at + length p) in let m : length p ≡ length (cut s at (at + length p)) = fits_length p _ e in omega arith)

  -- the whole pattern
  pub fits_whole : (r : Bool) → r ≡ fits (cut p 0 (0 + length p)) (cut s at (at + length p)) → r ≡ fits p (cut s at (at + length p))
  fits_whole r e = e ∙ ap (λ (l : List ℕ). fits l (cut s at (at + length p))) (rw zero-add (cut_all p))

-- ---- numbers, place by place

-- a power, shut, so that a bound shows its places
unfoldable pub power : ℕ → ℕ → ℕ
power base k = base ^ k

-- r is the number v with the digit d behind it, to a base
pub record Placed (base v d r : ℕ) : Type 0 where
  pub value : r ≡ v * base + d
  pub digit : d < base

-- a number of no places; of one place more; and one that leaves room for a further place of m + 1
pub power_start : (base a : ℕ) → 0 < base → 0 < power base (a - a)
unfolding power
power_start base a h = let e : a - a ≡ 0 = omega arith in rw (e, pow-zero) (lit< tt)

pub power_step : (base a i v d r : ℕ) → v < power base (i - a) → a ≤ i → Placed base v d r → r < power base (i + 1 - a)
unfolding power
power_step base a i v d r b h p =
    let e : i + 1 - a ≡ suc (i - a) = omega arith in
    let m : suc v * base ≤ base ^ (i - a) * base = mul-le-mul_right base b in
    rw (e, pow-suc) (omega (arith, suc-mul v base, p.value, p.digit))

pub power_room : (base a i e n m v : ℕ) → v < power base (i - a) → 0 < base → i < e → e - a ≤ n → n ≤ suc m → v < power base m
unfolding power
power_room base a i e n m v b p h k l = lt_of_lt_of_le b (pow-le-pow_right p (omega arith))

-- in base ten
pub digit_low : (c : ℕ) → is_digit c ≡ true → 48 ≤ c
unfolding is_digit
digit_low c h = between_low 48 57 c h

pub digit_high : (c : ℕ) → is_digit c ≡ true → c ≤ 57
unfolding is_digit
digit_high c h = between_high 48 57 c h

pub digit_small : (c : ℕ) → is_digit c ≡ true → c - 48 < 10
digit_small c h = let l : c ≤ 57 = digit_high c h in omega arith

module _ (s : List ℕ) (i e v : ℕ) (x : Option ℕ) (inv : digits_from v (cut s i e) ≡ x) where
  module _ (h : i < e) (k : e ≤ length s) (t : Bool) (u : t ≡ is_digit (get_or s i 0)) where
    pub digits_more : t ≡ true → (r : ℕ) → Placed 10 v (get_or s i 0 - 48) r → digits_from r (cut s (i + 1) e) ≡ x
    unfolding digits_from
    digits_more d r p = rw p.value (rw (← u, d) at (left_step (digits_from v) s i e x inv h k))

    pub digits_bad : t ≡ false → none ≡ x
    unfolding digits_from
    digits_bad d = rw (← u, d) at (left_step (digits_from v) s i e x inv h k)

  pub digits_end : i ≤ e → e ≤ i → some v ≡ x
  unfolding digits_from
  digits_end h k = left_done (digits_from v) s i e x inv h k

-- in bytes
module _ (s : List ℕ) (i e v x : ℕ) (inv : number_from v (cut s i e) ≡ x) where
  pub number_more : i < e → e ≤ length s → (r : ℕ) → Placed 256 v (get_or s i 0) r → number_from r (cut s (i + 1) e) ≡ x
  unfolding number_from
  number_more h k r p = rw p.value (left_step (number_from v) s i e x inv h k)

  pub number_end : i ≤ e → e ≤ i → v ≡ x
  unfolding number_from
  number_end h k = left_done (number_from v) s i e x inv h k

pub ruleset reading = (holds_told, every_more, every_bad, every_end, run_short, run_long, run_each, equal_pairs, fits_pairs, pairs_more, pairs_bad, pairs_end, fits_short, fits_whole, power_start, power_step, power_room, digit_small, digits_more, digits_bad, digits_end, number_more, number_end, add-zero)
