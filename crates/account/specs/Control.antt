-- The control of an IBAN: a number carried along sign by sign that has the remainder by 97 of the whole, and a law for each way that the code goes.
--
use Rattle.std.specs.Prelude.{◌≡◌, Bool, false, ◌&&◌, ◌||◌, cond, List, [], ◌∷◌, ◌++◌, ℕ, suc, ◌+◌, ◌-◌, ◌*◌, ◌/◌, ◌%◌, ◌≤◌, ◌<◌, leb, eqb, get_or, take, drop}
use Rattle.std.proofs.Math.Path.{refl}
use Rattle.std.proofs.Common.{take-take, length-take, sym, ap, ◌∙◌, add-mul, mul_assoc, le-leb, eq-eqb, ne_eqb, take_all, take-suc, length-drop}
use Rattle.std.proofs.Math.Bool.{true}
use Rattle.std.proofs.Math.Nat.{add-mul-mod_self_left, mod-mod}
use native.Mathlib.Omega.{arith}
use Rattle.std.proofs.Math.ListN.{length}
use Rattle.std.proofs.lemmas.Bool.{lt-leb}
use Rattle.rules.specs.Text.{is_digit, is_letter, is_alnum, between, every}
use Rattle.rules.specs.Accounts.{with_sign, numeral, remainder, control, iban_shape, passes}
use Rattle.laws.specs.Tests.{between_low, between_high}
use Rattle.laws.specs.Reading.{digit_low, digit_high}
use Rattle.laws.specs.Every.{every_take, every_drop, every_within, every_first, every_head, every_at}
use Rattle.laws.specs.Parts.{cut_all, cut, cut_join, cut_two}
use Rattle.laws.specs.Slices.{part_cut}
use Rattle.rule_laws.specs.Groups.{iban_length}
use Rattle.rule_laws.specs.Signs.{iban_alnum}
use Rattle.account.specs.Shape.{Shaped, shape_told}

-- ---- remainders

-- a number and its remainder have one remainder with the same signs behind them: with one, to any base
behind : (k a d : ℕ) → (a * k + d) % 97 ≡ (a % 97 * k + d) % 97
behind k a d =
    let q : a % 97 + 97 * (a / 97) ≡ a = omega arith in
    let e : a * k + d ≡ a % 97 * k + d + 97 * (a / 97 * k) =
    ap (λ (x : ℕ). x * k + d) (sym q) ∙ rw (add-mul (a % 97) (97 * (a / 97)) k, mul_assoc 97 (a / 97) k) (omega arith) in
    rw e (add-mul-mod_self_left (a % 97 * k + d) 97 (a / 97 * k))

one_sign : (c a b : ℕ) → a % 97 ≡ b % 97 → with_sign a c % 97 ≡ with_sign b c % 97
unfolding with_sign
one_sign c a b e = go (is_digit c)
  where
    go : (t : Bool) → cond t (a * 10 + (c - 48)) (a * 100 + (c - 55)) % 97 ≡ cond t (b * 10 + (c - 48)) (b * 100 + (c - 55)) % 97
    go true = rw (behind 10 a (c - 48), behind 10 b (c - 48), e)
    go false = rw (behind 100 a (c - 55), behind 100 b (c - 55), e)

-- with any number of them
numeral_same : (cs : List ℕ) (a b : ℕ) → a % 97 ≡ b % 97 → numeral a cs % 97 ≡ numeral b cs % 97
unfolding numeral
numeral_same [] a b e = e
numeral_same (c ∷ cs) a b e = numeral_same cs (with_sign a c) (with_sign b c) (one_sign c a b e)

numeral_append : (xs ys : List ℕ) (v : ℕ) → numeral v (xs ++ ys) ≡ numeral (numeral v xs) ys
unfolding numeral
numeral_append [] ys v = refl
numeral_append (x ∷ xs) ys v = numeral_append xs ys (with_sign v x)

-- ---- a number carried along: r has the remainder of the number v with the signs cs behind it, and is not large

pub record Carried (v : ℕ) (cs : List ℕ) (top r : ℕ) : Type 0 where
  pub same : r % 97 ≡ numeral v cs % 97
  pub most : r ≤ top

carried_on : (u v r t m : ℕ) (xs ys : List ℕ) → Carried u xs t v → Carried v ys m r → Carried u (xs ++ ys) m r
carried_on u v r t m xs ys p q = record {
  same = q.same ∙ numeral_same ys v (numeral u xs) p.same ∙ ap (λ (n : ℕ). n % 97) (sym (numeral_append xs ys u));
  most = q.most;
}

carried_cut : (s : List ℕ) (i k e u v r t m : ℕ) → i + k ≤ e → Carried u (cut s i (i + k)) t v → Carried v (cut s (i + k) e) m r → Carried u (cut s i e) m r
carried_cut s i k e u v r t m h p q = rw (cut_join s i k e h) at (carried_on u v r t m (cut s i (i + k)) (cut s (i + k) e) p q)

carried_fold : (v : ℕ) (cs : List ℕ) (t r : ℕ) → Carried v cs t r → Carried v cs 96 (r % 97)
carried_fold v cs t r p = record { same = mod-mod r 97 ∙ p.same; most = omega arith }

four_bytes : (s : List ℕ) (i : ℕ) → i + 4 ≤ length s → cut s i (i + 4) ≡ get_or s i 0 ∷ get_or s (i + 1) 0 ∷ get_or s (i + 2) 0 ∷ get_or s (i + 3) 0 ∷ []
four_bytes s i l =
    let e : i + 2 + 2 ≡ i + 4 = omega arith in
    let f : i + 2 + 1 ≡ i + 3 = omega arith in
    sym (cut_join s i 2 (i + 4) (omega arith)) ∙ rw (cut_two s i (omega arith), ← e, cut_two s (i + 2) (omega arith), f)

-- r is the number of a sign, by the byte that is 0 among its like
pub record Sign (c null top r : ℕ) : Type 0 where
  pub value : r ≡ c - null
  pub most : r ≤ top

pub digit_is : (c : ℕ) → is_digit c ≡ true → Sign c 48 9 (c - 48)
digit_is c h = let l : c ≤ 57 = digit_high c h in record { value = refl; most = omega arith }

pub letter_is : (c : ℕ) → is_letter c ≡ true → Sign c 55 35 (c - 55)
unfolding is_letter
letter_is c h = let l : c ≤ 90 = between_high 65 90 c h in record { value = refl; most = omega arith }

pub letter_low : (c : ℕ) → is_letter c ≡ true → 55 ≤ c
unfolding is_letter
letter_low c h = let l : 65 ≤ c = between_low 65 90 c h in omega arith

-- ---- a letter or digit: which of them, by its byte

either_low : (c : ℕ) (t : Bool) → is_digit c ≡ t → (t || is_letter c) ≡ true → c ≤ 57 → is_digit c ≡ true
unfolding is_letter
either_low c true e h l = e
either_low c false e h l = absurd (omega (arith, between_low 65 90 c h))

either_high : (c : ℕ) (t : Bool) → is_digit c ≡ t → (t || is_letter c) ≡ true → 57 < c → is_letter c ≡ true
either_high c true e h l = absurd (omega (arith, digit_high c e))
either_high c false e h l = h

letter_not : (c : ℕ) → is_letter c ≡ true → is_digit c ≡ false
unfolding is_digit is_letter
letter_not c h = let l : 65 ≤ c = between_low 65 90 c h in rw (le-leb 48 c (omega arith), lt-leb c 57 (omega arith))

-- the number of two digits
pub record Two (c d r : ℕ) : Type 0 where
  pub value : r ≡ (c - 48) * 10 + (d - 48)
  pub most : r ≤ 99

pub two_is : (c d x y : ℕ) → Sign c 48 9 x → Sign d 48 9 y → Two c d (x * 10 + y)
two_is c d x y p q = record { value = rw (p.value, q.value); most = omega (arith, p.most, q.most) }

pub pair_carried : (s : List ℕ) (i v r : ℕ) → every is_digit (cut s i (i + 2)) ≡ true → i + 2 ≤ length s → Two (get_or s i 0) (get_or s (i + 1) 0) r → Carried v (cut s i (i + 2)) (v * 3 + 99) (v * 3 + r)
unfolding numeral with_sign
pair_carried s i v r w l t =
    let c : ℕ = get_or s i 0 in
    let d : ℕ = get_or s (i + 1) 0 in
    let same : (v * 3 + ((c - 48) * 10 + (d - 48))) % 97 ≡ ((v * 10 + (c - 48)) * 10 + (d - 48)) % 97 = omega arith in record {
      same = rw (cut_two s i l, every_head is_digit s i 2 w l refl, every_at is_digit s i 2 w l 1 refl, t.value) same;
      most = omega (arith, t.most);
    }

pub letters_carried : (s : List ℕ) (i x y z w : ℕ) → every is_letter (cut s i (i + 4)) ≡ true → i + 4 ≤ length s
    → Sign (get_or s i 0) 55 35 x → Sign (get_or s (i + 1) 0) 55 35 y → Sign (get_or s (i + 2) 0) 55 35 z → Sign (get_or s (i + 3) 0) 55 35 w
    → Carried 0 (cut s i (i + 4)) 1400 (x * 27 + y * 9 + z * 3 + w)
unfolding numeral with_sign
letters_carried s i x y z w p l a b c d =
    let same : (x * 27 + y * 9 + z * 3 + w) % 97 ≡ ((((0 * 100 + x) * 100 + y) * 100 + z) * 100 + w) % 97 = omega arith in record {
      same =
          rw (
            four_bytes s i l,
            letter_not _ (every_head is_letter s i 4 p l refl),
            letter_not _ (every_at is_letter s i 4 p l 1 refl),
            letter_not _ (every_at is_letter s i 4 p l 2 refl),
            letter_not _ (every_at is_letter s i 4 p l 3 refl),
            ← a.value,
            ← b.value,
            ← c.value,
            ← d.value,
          )
          same;
      most = omega (arith, a.most, b.most, c.most, d.most);
    }

module _ (v c : ℕ) (h : is_alnum c ≡ true) where
  module _ (l : c < 58) where
    pub sign_digit : is_digit c ≡ true
    unfolding is_alnum
    sign_digit = either_low c (is_digit c) refl h (omega arith)

    pub carried_digit : (x : ℕ) → Sign c 48 9 x → Carried v (c ∷ []) (v * 10 + 35) (v * 10 + x)
    unfolding numeral with_sign
    carried_digit x w = record { same = rw (sign_digit, ← w.value); most = omega (arith, w.most) }

  module _ (l : 58 ≤ c) where
    pub sign_letter : is_letter c ≡ true
    unfolding is_alnum
    sign_letter = either_high c (is_digit c) refl h (omega arith)

    pub carried_letter : (x : ℕ) → Sign c 55 35 x → Carried v (c ∷ []) (v * 10 + 35) (v * 3 + x)
    unfolding numeral with_sign
    carried_letter x w =
        let same : (v * 3 + x) % 97 ≡ (v * 100 + x) % 97 = omega arith in
        record { same = rw (letter_not c sign_letter, ← w.value) same; most = omega (arith, w.most) }

-- by what the code makes of its byte
module _ (c : ℕ) (h : is_alnum c ≡ true) where
  module _ (l : c ≤ 57) where
    digit : is_digit c ≡ true
    unfolding is_alnum
    digit = either_low c (is_digit c) refl h l

    pub digit_least : 48 ≤ c
    digit_least = digit_low c digit

    pub digit_carried : (v : ℕ) → Carried v (c ∷ []) (v * 10 + 35) (v * 10 + (c - 48))
    unfolding numeral with_sign
    digit_carried v = record { same = rw digit; most = omega arith }

  module _ (l : 57 < c) where
    letter : is_letter c ≡ true
    unfolding is_alnum
    letter = either_high c (is_digit c) refl h l

    pub letter_least : 65 ≤ c
    unfolding is_letter
    letter_least = between_low 65 90 c letter

    pub letter_carried : (v : ℕ) → Carried v (c ∷ []) (v * 10 + 35) (v * 3 + (c - 65 + 10))
    unfolding numeral with_sign is_letter
    letter_carried v =
        let low : 65 ≤ c = letter_least in
        let high : c ≤ 90 = between_high 65 90 c letter in
        let same : (v * 3 + (c - 65 + 10)) % 97 ≡ (v * 100 + (c - 55)) % 97 = omega arith in
        record { same = rw (letter_not c letter) same; most = omega arith }

-- two signs, one behind the other, and a remainder
pub signs_carried : (c d u v r t m : ℕ) → Carried u (c ∷ []) t v → Carried v (d ∷ []) m r → Carried u (c ∷ d ∷ []) 96 (r % 97)
signs_carried c d u v r t m p q = carried_fold u (c ∷ d ∷ []) m r (carried_on u v r t m (c ∷ []) (d ∷ []) p q)

-- two digits behind a number
pub digits_carried : (c d v : ℕ) → is_digit c ≡ true → is_digit d ≡ true → Carried v (c ∷ d ∷ []) (v * 3 + 99) (v * 3 + (c - 48) * 10 + (d - 48))
unfolding numeral with_sign
digits_carried c d v h k =
    let l : c ≤ 57 = digit_high c h in
    let m : d ≤ 57 = digit_high d k in
    let same : (v * 3 + (c - 48) * 10 + (d - 48)) % 97 ≡ ((v * 10 + (c - 48)) * 10 + (d - 48)) % 97 = omega arith in record { same = rw (h, k) same; most = omega arith }

-- ---- runs of them

module _ (s : List ℕ) (i : ℕ) where
  pub signs_2 : (u v r t m : ℕ) → i + 2 ≤ length s → Carried u (get_or s i 0 ∷ []) t v → Carried v (get_or s (i + 1) 0 ∷ []) m r → Carried u (cut s i (i + 2)) 96 (r % 97)
  signs_2 u v r t m l p q = rw (cut_two s i l) (carried_fold u _ m r (carried_on u v r t m (get_or s i 0 ∷ []) (get_or s (i + 1) 0 ∷ []) p q))

  runs_2 : (k j u v r t m : ℕ) → i + k ≡ j → Carried u (cut s i (i + k)) t v → Carried v (cut s j (j + 2)) m r → Carried u (cut s i (i + k + 2)) m r
  runs_2 k j u v r t m e p q = carried_cut s i k (i + k + 2) u v r t m (omega arith) p (rw e q)

  pub runs_6 : (u v w r t m n : ℕ) → Carried u (cut s i (i + 2)) t v → Carried v (cut s (i + 2) (i + 2 + 2)) m w → Carried w (cut s (i + 4) (i + 4 + 2)) n r → Carried u (cut s i (i + 6)) 96 (r % 97)
  runs_6 u v w r t m n p q x =
      let e : i + 2 + 2 ≡ i + 4 = omega arith in
      let f : i + 4 + 2 ≡ i + 6 = omega arith in
      carried_fold u (cut s i (i + 6)) n r (rw f at (runs_2 4 (i + 4) u w r m n refl (rw e at (runs_2 2 (i + 2) u v w t m refl p q)) x))

  pub runs_8 : (u v w x r t m n o : ℕ) → Carried u (cut s i (i + 2)) t v → Carried v (cut s (i + 2) (i + 2 + 2)) m w → Carried w (cut s (i + 4) (i + 4 + 2)) n x
      → Carried x (cut s (i + 6) (i + 6 + 2)) o r → Carried u (cut s i (i + 8)) o r
  runs_8 u v w x r t m n o p q y z =
      let e : i + 2 + 2 ≡ i + 4 = omega arith in
      let f : i + 4 + 2 ≡ i + 6 = omega arith in
      let g : i + 6 + 2 ≡ i + 8 = omega arith in
      rw g at (runs_2 6 (i + 6) u x r n o refl (rw f at (runs_2 4 (i + 4) u w x m n refl (rw e at (runs_2 2 (i + 2) u v w t m refl p q)) y)) z)

-- bank, branch and account, one behind the other
pub runs_tail : (s : List ℕ) (at v w r t m n : ℕ) → Carried 0 (cut s (at + 4) (at + 4 + 4)) t v → Carried v (cut s (at + 8) (at + 8 + 6)) m w → Carried w (cut s (at + 14) (at + 14 + 8)) n r
    → Carried 0 (cut s (at + 4) (at + 22)) n r
runs_tail s at v w r t m n p q x =
    let e : at + 4 + 4 ≡ at + 8 = omega arith in
    let f : at + 8 + 6 ≡ at + 14 = omega arith in
    let g : at + 4 + 10 ≡ at + 14 = omega arith in
    let h : at + 14 + 8 ≡ at + 22 = omega arith in
    let a : Carried 0 (cut s (at + 4) (at + 14)) m w = carried_cut s (at + 4) 4 (at + 14) 0 v w t m (omega arith) p (rw e (rw f at q)) in
    carried_cut s (at + 4) 10 (at + 22) 0 w r m n (omega arith) (rw g a) (rw g (rw h at x))

-- ---- sign by sign

every_get : (p : ℕ → Bool) (cs : List ℕ) → every p cs ≡ true → (k : ℕ) → k < length cs → p (get_or cs k 0) ≡ true
every_get p cs h k l = every_first p cs k (length cs) (every_within p cs 0 (length cs) k (length cs) (rw (cut_all cs) h) (omega arith) (omega arith) (omega arith)) l (omega arith)

pub carrying_start : (cs : List ℕ) → Carried 0 (take 0 cs) 96 0
unfolding numeral
carrying_start cs = record { same = refl; most = omega arith }

pub carrying_more : (cs : List ℕ) (k v r m : ℕ) → k < length cs → Carried 0 (take k cs) 96 v → Carried v (get_or cs k 0 ∷ []) m r → Carried 0 (take (k + 1) cs) 96 (r % 97)
carrying_more cs k v r m h p q =
    let e : k + 1 ≡ suc k = omega arith in
    rw (e, take-suc cs k 0 h) (carried_fold 0 (take k cs ++ get_or cs k 0 ∷ []) m r (carried_on 0 v r 96 m (take k cs) (get_or cs k 0 ∷ []) p q))

-- ---- an IBAN's bank, branch and account

module _ (s : List ℕ) (h : iban_shape s ≡ true) where
  whole : length s ≡ 22
  whole = iban_length s h

  -- what is behind the first four is letters or digits, and the branch digits
  pub sign_at : (k : ℕ) → k < 22 → is_alnum (get_or s k 0) ≡ true
  sign_at k l = every_get is_alnum s (iban_alnum s h) k (omega (arith, whole))

  pub branch_at : (k : ℕ) → 8 ≤ k → k < 14 → is_digit (get_or s k 0) ≡ true
  branch_at k l m =
      let run : every is_digit (cut s 8 14) ≡ true = rw (← part_cut s 8 14 (omega arith)) (shape_told s h).branch in
      every_first is_digit s k 14 (every_within is_digit s 8 14 k 14 run (omega arith) (omega arith) (omega arith)) m (omega (arith, whole))

  -- two signs there
  at_two : (k u r t : ℕ) → k + 2 ≤ 22 → Carried u (get_or s k 0 ∷ get_or s (k + 1) 0 ∷ []) t r → Carried u (cut s k (k + 2)) t r
  at_two k u r t l p = rw (cut_two s k (omega (arith, whole))) p

  -- bank, branch and account, two signs by two
  pub bank_carried : (v r : ℕ) → Carried 0 (get_or s 4 0 ∷ get_or s 5 0 ∷ []) 96 v → Carried v (get_or s 6 0 ∷ get_or s 7 0 ∷ []) 96 r → Carried 0 (cut s 4 8) 96 r
  bank_carried v r p q = carried_cut s 4 2 8 0 v r 96 96 (omega arith) (at_two 4 0 v 96 (omega arith) p) (at_two 6 v r 96 (omega arith) q)

  pub branch_carried : (u v w r t m n : ℕ) → Carried u (get_or s 8 0 ∷ get_or s 9 0 ∷ []) t v → Carried v (get_or s 10 0 ∷ get_or s 11 0 ∷ []) m w → Carried w (get_or s 12 0 ∷ get_or s 13 0 ∷ []) n r
      → Carried u (cut s 8 14) 96 (r % 97)
  branch_carried u v w r t m n p q x =
      carried_fold u (cut s 8 14) n r (carried_cut s 8 4 14 u w r m n (omega arith) (carried_cut s 8 2 12 u v w t m (omega arith) (at_two 8 u v t (omega arith) p) (at_two 10 v w m (omega arith) q)) (at_two 12 w r n (omega arith) x))

  pub account_carried : (u v w x r : ℕ) → Carried u (get_or s 14 0 ∷ get_or s 15 0 ∷ []) 96 v → Carried v (get_or s 16 0 ∷ get_or s 17 0 ∷ []) 96 w → Carried w (get_or s 18 0 ∷ get_or s 19 0 ∷ []) 96 x
      → Carried x (get_or s 20 0 ∷ get_or s 21 0 ∷ []) 96 r → Carried u (cut s 14 22) 96 r
  account_carried u v w x r p q y z =
      let front : Carried u (cut s 14 18) 96 w = carried_cut s 14 2 18 u v w 96 96 (omega arith) (at_two 14 u v 96 (omega arith) p) (at_two 16 v w 96 (omega arith) q) in
      carried_cut s 14 6 22 u x r 96 96 (omega arith) (carried_cut s 14 4 20 u w x 96 96 (omega arith) front (at_two 18 w x 96 (omega arith) y)) (at_two 20 x r 96 (omega arith) z)

  -- all that is behind the first four
  pub tail_carried : (v w r : ℕ) → Carried 0 (cut s 4 8) 96 v → Carried v (cut s 8 14) 96 w → Carried w (cut s 14 22) 96 r → Carried 0 (take 18 (take 18 (drop 4 s))) 96 r
  tail_carried v w r p q x =
      rw (take-take 18 18 (drop 4 s) (omega arith), part_cut s 4 22 (omega arith)) (carried_cut s 4 10 22 0 w r 96 96 (omega arith) (carried_cut s 4 4 14 0 v w 96 96 (omega arith) p q) x)

  pub tail_size : length (take 18 (drop 4 s)) ≤ 18
  tail_size = omega (arith, length-take 18 (drop 4 s), length-drop 4 s, whole)

-- ---- the control

-- the control digits
abbrev control_digits : List ℕ → ℕ
control_digits s = (get_or s 2 0 - 48) * 10 + (get_or s 3 0 - 48)

module _ (s : List ℕ) (h : iban_shape s ≡ true) where
  -- each sign behind the first four is a letter or digit
  pub tail_sign : (k : ℕ) → k < length (take 18 (drop 4 s)) → is_alnum (get_or (take 18 (drop 4 s)) k 0) ≡ true
  tail_sign k l = every_get is_alnum (take 18 (drop 4 s)) (every_take is_alnum 18 (drop 4 s) (every_drop is_alnum 4 s (iban_alnum s h))) k l

  pub third_digit : 48 ≤ get_or s 2 0
  third_digit = digit_low _ (shape_told s h).third

  pub fourth_digit : 48 ≤ get_or s 3 0
  fourth_digit = digit_low _ (shape_told s h).fourth

  -- f carries all of them
  module _ {t : ℕ} (f n : ℕ) (p : Carried 0 (take n (take 18 (drop 4 s))) t f) (m : length (take 18 (drop 4 s)) ≤ n) where
    all : take n (take 18 (drop 4 s)) ≡ drop 4 s
    all = let l : length (drop 4 s) ≡ 18 = omega (arith, length-drop 4 s, iban_length s h) in take_all n (take 18 (drop 4 s)) m ∙ take_all 18 (drop 4 s) (omega arith)

    head : numeral f (take 4 s) % 97 ≡ (f * 27 + 147 + control_digits s) % 97
    unfolding numeral with_sign is_digit
    head = let g : Shaped s = shape_told s h in rw (g.front, g.first, g.second, g.third, g.fourth) (omega arith)

    parts : control s ≡ (eqb ((f * 27 + 147 + control_digits s) % 97) 1 && between 2 98 (control_digits s))
    unfolding control remainder
    parts = rw (numeral_append, numeral_same (take 4 s) (numeral 0 (drop 4 s)) f (sym (rw all at p.same)), head)

    pub control_not : ((f * 27 + 147 + control_digits s) % 97 ≡ 1 → ⊥) → false ≡ control s
    control_not e = rw (parts, ne_eqb _ 1 e)

    module _ (e : (f * 27 + 147 + control_digits s) % 97 ≡ 1) where
      pub control_low : control_digits s < 2 → false ≡ control s
      control_low l = rw (parts, eq-eqb _ 1 e, lt-leb 2 (control_digits s) l)

      pub control_high : 2 ≤ control_digits s → leb (control_digits s) 98 ≡ control s
      control_high l = rw (parts, eq-eqb _ 1 e, le-leb 2 (control_digits s) l)

-- by bank, branch and account
module _ (s : List ℕ) (h : iban_shape s ≡ true) (v w f : ℕ) (p : Carried 0 (cut s 4 8) 96 v) (q : Carried v (cut s 8 14) 96 w) (x : Carried w (cut s 14 22) 96 f) where
  behind_four : Carried 0 (take 18 (take 18 (drop 4 s))) 96 f
  behind_four = tail_carried s h v w f p q x

  pub parts_not : ((f * 27 + 147 + control_digits s) % 97 ≡ 1 → ⊥) → false ≡ control s
  parts_not e = control_not s h f 18 behind_four (tail_size s h) e

  pub parts_low : (f * 27 + 147 + control_digits s) % 97 ≡ 1 → control_digits s < 2 → false ≡ control s
  parts_low e l = control_low s h f 18 behind_four (tail_size s h) e l

  pub parts_high : (f * 27 + 147 + control_digits s) % 97 ≡ 1 → 2 ≤ control_digits s → leb (control_digits s) 98 ≡ control s
  parts_high e l = control_high s h f 18 behind_four (tail_size s h) e l

-- ---- shape, then control

module _ (cs : List ℕ) (t : Bool) (u : t ≡ iban_shape cs) where
  pub passes_shaped : t ≡ true → (r : Bool) → r ≡ control cs → r ≡ passes cs
  unfolding passes
  passes_shaped d r e = rw (← u, d) e

  pub passes_not : t ≡ false → false ≡ passes cs
  unfolding passes
  passes_not d = rw (← u, d)

pub ruleset controls = (digit_low, sign_at, branch_at, digit_least, digit_carried, letter_least, letter_carried, third_digit, fourth_digit)
