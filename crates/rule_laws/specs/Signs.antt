-- Letters and digits: what fits a pattern of them, as a BIC and an IBAN do, is made of them.
use Rattle.std.specs.Prelude.{◌≡◌, refl, Bool, true, false, ◌||◌, cond, List, [], ◌∷◌, ℕ, ◌≤◌, ◌<◌, eqb}
use Rattle.std.proofs.Common.{arith, eqb-true, ne_eqb}
use Rattle.rules.specs.Text.{ascii, is_digit, is_letter, is_alnum, every, fits, fits_sign}
use Rattle.rules.specs.Accounts.{is_bic, iban_shape}
use Rattle.laws.specs.Tests.{never, cond_left, cond_right, between_low}

-- a sign that letters and digits alone fit
unfoldable pub is_sign : ℕ → Bool
is_sign p = eqb p 110 || eqb p 97 || eqb p 99 || is_alnum p

-- ---- letters and digits

alnum_low : (c : ℕ) → is_alnum c ≡ true → 48 ≤ c
unfolding is_alnum is_digit is_letter
alnum_low c h = go (is_digit c) refl h
  where
    go : (t : Bool) → is_digit c ≡ t → (t || is_letter c) ≡ true → 48 ≤ c
    go true e k = between_low 48 57 c e
    go false e k = omega (arith, between_low 65 90 c k)

-- no comma, CR or LF
pub alnum_other : (k c : ℕ) → k < 48 → is_alnum c ≡ true → eqb c k ≡ false
alnum_other k c l h = let m : 48 ≤ c = alnum_low c h in ne_eqb c k (omega arith)

-- digits and letters are such bytes
pub digit_alnum : (c : ℕ) → is_digit c ≡ true → is_alnum c ≡ true
unfolding is_alnum
digit_alnum c h = rw h

letter_alnum : (c : ℕ) → is_letter c ≡ true → is_alnum c ≡ true
unfolding is_alnum
letter_alnum c h = go (is_digit c)
  where
    go : (t : Bool) → (t || is_letter c) ≡ true
    go true = refl
    go false = h

sign_alnum : (p c : ℕ) → is_sign p ≡ true → fits_sign p c ≡ true → is_alnum c ≡ true
unfolding is_sign fits_sign
sign_alnum p c s h = go (eqb p 110) (eqb p 97) (eqb p 99) s h
  where
    go : (x y z : Bool) → (x || y || z || is_alnum p) ≡ true → cond x (is_digit c) (cond y (is_letter c) (cond z (is_alnum c) (eqb p c))) ≡ true → is_alnum c ≡ true
    go true y z s h = digit_alnum c h
    go false true z s h = letter_alnum c h
    go false false true s h = h
    go false false false s h = rw (eqb-true p c h) at s

pub fits_alnum : (ps cs : List ℕ) → every is_sign ps ≡ true → fits ps cs ≡ true → every is_alnum cs ≡ true
unfolding every fits
fits_alnum [] [] s h = refl
fits_alnum [] (c ∷ cs) s h = never h
fits_alnum (p ∷ ps) [] s h = refl
fits_alnum (p ∷ ps) (c ∷ cs) s h =
    rw (sign_alnum p c (cond_left _ _ s) (cond_left _ _ h)) (fits_alnum ps cs (cond_right (is_sign p) _ s) (cond_right (fits_sign p c) _ h))

-- a BIC and an IBAN have nothing else
pub bic_alnum : (cs : List ℕ) → is_bic cs ≡ true → every is_alnum cs ≡ true
unfolding is_bic every is_sign
bic_alnum cs h = fits_alnum (ascii "aaaaaacc") cs refl h

pub iban_alnum : (cs : List ℕ) → iban_shape cs ≡ true → every is_alnum cs ≡ true
unfolding iban_shape every is_sign is_alnum is_digit is_letter
iban_alnum cs h = fits_alnum (ascii "BGnnaaaannnnnncccccccc") cs refl h
