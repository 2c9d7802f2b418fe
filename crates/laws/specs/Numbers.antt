-- What was written as a number is read as that number, and what was read is written as it stood: for any base, and for digits and big-endian bytes.
use Rattle.std.specs.Prelude.{◌≡◌, refl, Bool, true, false, ◌||◌, cond, List, [], ◌∷◌, ℕ, zero, suc, ◌+◌, ◌-◌, ◌*◌, ◌/◌, ◌%◌, ◌^◌, ◌≤◌, ◌<◌, eqb, length, get_or}
use Rattle.std.proofs.Common.{sym, ap, ◌∙◌, pow-suc, mul_assoc, add-mul, mul-one, mod-lt, mod-eq_of_lt, add_assoc, suc-mul, mul-le-mul_right, lt_of_lt_of_le, div-one, arith, lit<, le-leb, eqb-true}
use Rattle.std.proofs.Math.Option.{Option, none, some}
use Rattle.std.proofs.Math.Nat.{pow-zero, pow-succ', one-le-pow, mod-one, div-div-eq-div-mul, add-sub_cancel_left}
use Rattle.std.proofs.Math.Arith.{mod-mul, digits_div, digits_mod}
use Rattle.rules.specs.Text.{ascii, is_digit, is_letter, is_alnum, fits, fits_sign, places, width, fixed, bytes, decimal, digits, digits_from, big_endian, number_from}
use Rattle.rules.specs.Accounts.{is_bic}
use Rattle.laws.specs.Parts.{cut}
use Rattle.laws.specs.Tests.{between_high, cond_right, cond_left, never, none_some}
use Rattle.laws.specs.All.{All, All.none, All.more, all_take, all_drop}
use Rattle.laws.specs.Digits.{width_power}
use Rattle.laws.specs.Reading.{digit_low, digit_high, fits_length}

-- the number v and then some places behind it, to a base
unfoldable value_from : ℕ → ℕ → ℕ → List ℕ → ℕ
value_from base null v [] = v
value_from base null v (c ∷ cs) = value_from base null (v * base + (c - null)) cs

-- a byte that is a place to the base
pub record IsPlace (base null c : ℕ) : Type 0 where
  pub low : null ≤ c
  pub high : c - null < base

-- each byte is one
abbrev pub Within : ℕ → ℕ → List ℕ → Type 0
Within base null cs = All (IsPlace base null) cs

-- ---- written, then read

value_places : (base null v k x : ℕ) → 0 < base → value_from base null v (places base null k x) ≡ v * base ^ k + x % base ^ k
unfolding value_from places
value_places base null v zero x h = rw (pow-zero, mul-one, mod-one) (omega arith)
value_places base null v (suc k) x h =
    let d : ℕ = x / base ^ k % base in
    let e : null + d - null ≡ d = add-sub_cancel_left null d in
    ap (λ (n : ℕ). value_from base null (v * base + n) (places base null k x)) e
    ∙ value_places base null (v * base + d) k x h
    ∙ rw (add-mul, mul_assoc, ← (pow-succ' base k), add_assoc)
    (ap (λ (n : ℕ). v * base ^ suc k + n) (sym (ap (λ (n : ℕ). x % n) (pow-succ' base k) ∙ mod-mul x h (one-le-pow k base h))))

pub places_within : (base null k x : ℕ) → 0 < base → Within base null (places base null k x)
unfolding places
places_within base null zero x h = none
places_within base null (suc k) x h =
    let d : ℕ = x / base ^ k % base in
    let e : null + d - null ≡ d = add-sub_cancel_left null d in
    more {x = null + d} record { low = omega arith; high = rw e (mod-lt (x / base ^ k) h) } (places_within base null k x h)

-- ---- read, then written

-- the places in front of the last ones are those of v
value_front : {base null : ℕ} {cs : List ℕ} (v : ℕ) → Within base null cs → value_from base null v cs / base ^ length cs ≡ v
unfolding value_from
value_front {base} v none = rw (pow-zero, div-one)
value_front {base} {null} v (more {x = c} {xs = cs} d s) =
    ap (λ (n : ℕ). value_from base null (v * base + (c - null)) cs / n) (pow-suc base (length cs))
    ∙ sym (div-div-eq-div-mul (value_from base null (v * base + (c - null)) cs) (base ^ length cs) base)
    ∙ ap (λ (n : ℕ). n / base) (value_front (v * base + (c - null)) s)
    ∙ digits_div v d.high

places_value : {base null : ℕ} {cs : List ℕ} (v : ℕ) → Within base null cs → places base null (length cs) (value_from base null v cs) ≡ cs
unfolding value_from places
places_value v none = refl
places_value {base} {null} v (more {x = c} {xs = cs} d s) =
    let w : ℕ = v * base + (c - null) in
    let e : null + value_from base null w cs / base ^ length cs % base ≡ c =
    ap (λ (n : ℕ). null + n % base) (value_front w s) ∙ ap (λ (n : ℕ). null + n) (digits_mod v d.high) ∙ omega (arith, d.low) in
    ap (λ (x : ℕ). x ∷ places base null (length cs) (value_from base null w cs)) e ∙ ap (λ (xs : List ℕ). c ∷ xs) (places_value w s)

value_small : {base null : ℕ} {cs : List ℕ} (v : ℕ) → Within base null cs → value_from base null v cs < suc v * base ^ length cs
unfolding value_from
value_small v none = rw (pow-zero, mul-one) (omega arith)
value_small {base} {null} v (more {x = c} {xs = cs} d s) =
    let w : ℕ = v * base + (c - null) in
    let m : suc w * base ^ length cs ≤ suc v * base * base ^ length cs = mul-le-mul_right (base ^ length cs) (omega (arith, suc-mul v base, d.high)) in
    rw (pow-succ', ← mul_assoc (suc v) base (base ^ length cs)) (lt_of_lt_of_le (value_small w s) m)

-- ---- big-endian bytes

number_value : (v : ℕ) (bs : List ℕ) → number_from v bs ≡ value_from 256 0 v bs
unfolding number_from value_from
number_value v [] = refl
number_value v (b ∷ bs) = let e : b - 0 ≡ b = omega arith in rw e (number_value (v * 256 + b) bs)

pub bytes_within : (bs : List ℕ) → ((i : ℕ) → get_or bs i 0 < 256) → Within 256 0 bs
bytes_within [] h = none
bytes_within (b ∷ bs) h = more {x = b} record { low = omega arith; high = omega (arith, h 0) } (bytes_within bs (λ i. h (suc i)))

pub number_bytes : (k v : ℕ) → v < 256 ^ k → big_endian (bytes k v) ≡ v
number_bytes k v h = number_value 0 (bytes k v) ∙ value_places 256 0 0 k v (lit< tt) ∙ rw (mod-eq_of_lt h) (omega arith)

pub bytes_number : {bs : List ℕ} → Within 256 0 bs → bytes (length bs) (big_endian bs) ≡ bs
bytes_number {bs} s = ap (bytes (length bs)) (number_value 0 bs) ∙ places_value 0 s

pub number_small : {bs : List ℕ} → Within 256 0 bs → big_endian bs < 256 ^ length bs
number_small {bs} s = let l : value_from 256 0 0 bs < 1 * 256 ^ length bs = value_small 0 s in rw number_value (omega arith)

-- ---- digits

digits_value : {cs : List ℕ} (v : ℕ) → Within 10 48 cs → digits_from v cs ≡ some (value_from 10 48 v cs)
unfolding digits_from value_from is_digit
digits_value v none = refl
digits_value v (more {x = c} {xs = cs} d s) = rw (le-leb 48 c d.low, le-leb c 57 (omega (arith, d.low, d.high))) (digits_value (v * 10 + (c - 48)) s)

pub digits_within : (cs : List ℕ) (v n : ℕ) → digits_from v cs ≡ some n → Within 10 48 cs
unfolding digits_from
digits_within [] v n h = none
digits_within (c ∷ cs) v n h = go (is_digit c) refl (digits_within cs (v * 10 + (c - 48)) n)
  where
    go : (t : Bool) → is_digit c ≡ t → (digits_from (v * 10 + (c - 48)) cs ≡ some n → Within 10 48 cs) → Within 10 48 (c ∷ cs)
    go true e f = more record { low = digit_low c e; high = omega (arith, digit_high c e) } (f (rw e at h))
    go false e f = let g : ◌≡◌ {A = Option ℕ} none (some n) = rw e at h in none_some g

pub digits_fixed : (k v : ℕ) → v < 10 ^ k → digits (fixed k v) ≡ some v
digits_fixed k v h =
    digits_value 0 (places_within 10 48 k v (lit< tt)) ∙ ap {A = ℕ} some (value_places 10 48 0 k v (lit< tt) ∙ rw (mod-eq_of_lt h) (omega arith))

pub digits_decimal : (v : ℕ) → v < 10 ^ 20 → digits (decimal v) ≡ some v
digits_decimal v h = digits_fixed (width 19 v) v (width_power 19 v h)

pub digits_small : (cs : List ℕ) (n : ℕ) → digits cs ≡ some n → n < 10 ^ length cs
digits_small cs n h =
    let s : Within 10 48 cs = digits_within cs 0 n h in
    let e : some n ≡ some (value_from 10 48 0 cs) = sym h ∙ digits_value 0 s in
    let f : n ≡ value_from 10 48 0 cs = cc in
    let l : value_from 10 48 0 cs < 1 * 10 ^ length cs = value_small 0 s in
    rw f (omega arith)

-- ---- parts, and banks

pub within_cut : {base null : ℕ} {cs : List ℕ} (a b : ℕ) → Within base null cs → Within base null (cut cs a b)
unfolding cut
within_cut a b s = all_drop a (all_take b s)

-- what fits a pattern of bytes is bytes
sign_within : (p c : ℕ) → p < 256 → fits_sign p c ≡ true → c < 256
unfolding fits_sign is_digit is_letter is_alnum
sign_within p c l h = go (eqb p 110) (eqb p 97) (eqb p 99) h
  where
    go : (x y z : Bool) → cond x (is_digit c) (cond y (is_letter c) (cond z (is_alnum c) (eqb p c))) ≡ true → c < 256
    go true y z e = omega (arith, between_high 48 57 c e)
    go false true z e = omega (arith, between_high 65 90 c e)
    go false false true e = alnum (is_digit c) refl e
      where
        alnum : (d : Bool) → is_digit c ≡ d → (d || is_letter c) ≡ true → c < 256
        alnum true f e = omega (arith, between_high 48 57 c f)
        alnum false f e = omega (arith, between_high 65 90 c e)
    go false false false e = omega (arith, eqb-true p c e)

pub fits_within : {ps : List ℕ} (cs : List ℕ) → Within 256 0 ps → fits ps cs ≡ true → Within 256 0 cs
unfolding fits
fits_within [] s h = none
fits_within (c ∷ cs) none h = never h
fits_within (c ∷ cs) (more {x = p} {xs = ps} d s) h =
    let f : fits_sign p c ≡ true = cond_left (fits_sign p c) (fits ps cs) h in
    more {x = c} record { low = omega arith; high = omega (arith, sign_within p c (omega (arith, d.high)) f) } (fits_within cs s (cond_right (fits_sign p c) (fits ps cs) h))

-- a BIC is the bytes of its number
bic_within : (cs : List ℕ) → is_bic cs ≡ true → Within 256 0 cs
unfolding is_bic places number_from
bic_within cs h = fits_within cs (places_within 256 0 8 (big_endian (ascii "aaaaaacc")) (lit< tt)) h

pub bic_number : (cs : List ℕ) → is_bic cs ≡ true → bytes 8 (big_endian cs) ≡ cs
unfolding is_bic
bic_number cs h = rw (← fits_length (ascii "aaaaaacc") cs h) at (bytes_number (bic_within cs h))

pub bic_small : (cs : List ℕ) → is_bic cs ≡ true → big_endian cs < 256 ^ 8
unfolding is_bic
bic_small cs h = rw (← fits_length (ascii "aaaaaacc") cs h) at (number_small (bic_within cs h))
