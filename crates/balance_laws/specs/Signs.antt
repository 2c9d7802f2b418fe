-- Dates, amounts, banks and accounts are made of letters and digits, and have few of them.
use Rattle.std.specs.Prelude.{◌≡◌, refl, true, List, ℕ, zero, suc, ◌+◌, ◌/◌, ◌%◌, ◌^◌, ◌<◌, length, replicate}
use Rattle.std.proofs.Common.{sym, mod-lt, arith, lit<, le-leb}
use Rattle.rules.specs.Text.{ascii, is_digit, is_alnum, every, fits, fits_sign, places, width, fixed, decimal}
use Rattle.rules.specs.Amounts.{written}
use Rattle.rules.specs.Accounts.{is_bic, iban_shape}
use Rattle.laws.specs.Reading.{fits_length}
use Rattle.laws.specs.Digits.{places_length, width_most}
use Rattle.rule_laws.specs.Signs.{is_sign, fits_alnum, bic_alnum, iban_alnum}
use Rattle.rule_laws.specs.Lines.{plain_alnum}
use Rattle.balance_laws.specs.Told.{Short, short_join}

-- ---- digits

place_digit : (v k : ℕ) → is_digit (48 + v / 10 ^ k % 10) ≡ true
unfolding is_digit
place_digit v k = let l : v / 10 ^ k % 10 < 10 = mod-lt (v / 10 ^ k) (lit< tt) in rw (le-leb 48 (48 + v / 10 ^ k % 10) (omega arith), le-leb (48 + v / 10 ^ k % 10) 57 (omega arith))

pub fixed_fits : (k v : ℕ) → fits (replicate k 110) (fixed k v) ≡ true
unfolding fits places fits_sign
fixed_fits zero v = refl
fixed_fits (suc k) v = rw (place_digit v k) (fixed_fits k v)

pub fixed_alnum : (k v : ℕ) → every is_alnum (fixed k v) ≡ true
unfolding every is_sign
fixed_alnum k v = fits_alnum (replicate k 110) (fixed k v) (signs k) (fixed_fits k v)
  where
    signs : (k : ℕ) → every is_sign (replicate k 110) ≡ true
    signs zero = refl
    signs (suc k) = signs k

-- ---- how long they are

pub short_fixed : (k v : ℕ) → Short k (fixed k v)
short_fixed k v = record { plain = plain_alnum _ (fixed_alnum k v); size = rw places_length (omega arith) }

pub short_decimal : (v : ℕ) → Short 20 (decimal v)
short_decimal v = record { plain = plain_alnum _ (fixed_alnum (width 19 v) v); size = rw places_length (width_most 19 v) }

pub short_written : {n : ℕ} {mark : List ℕ} (v : ℕ) → Short n mark → Short (20 + n + 2) (written mark v)
unfolding written
short_written v s = short_join (short_join (short_decimal (v / 100)) s) (short_fixed 2 (v % 100))

pub bic_length : (cs : List ℕ) → is_bic cs ≡ true → length cs ≡ 8
unfolding is_bic
bic_length cs h = sym (fits_length (ascii "aaaaaacc") cs h)

pub iban_length : (cs : List ℕ) → iban_shape cs ≡ true → length cs ≡ 22
unfolding iban_shape
iban_length cs h = sym (fits_length (ascii "BGnnaaaannnnnncccccccc") cs h)

pub short_bic : (cs : List ℕ) → is_bic cs ≡ true → Short 8 cs
short_bic cs h = record { plain = plain_alnum cs (bic_alnum cs h); size = omega (arith, bic_length cs h) }

pub short_iban : (cs : List ℕ) → iban_shape cs ≡ true → Short 22 cs
short_iban cs h = record { plain = plain_alnum cs (iban_alnum cs h); size = omega (arith, iban_length cs h) }
