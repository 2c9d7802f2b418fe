-- An account line, by tests alone: where the line has its form, both bounds are numbers.
use Rattle.std.specs.Prelude.{◌≡◌, Bool, ◌&&◌, cond, List, [], ◌∷◌, ℕ, zero, suc, ◌+◌, ◌-◌, ◌*◌, eqb, drop}
use Rattle.std.proofs.Math.Path.{refl}
use Rattle.std.proofs.Math.Bool.{true, false}
use Rattle.std.proofs.Math.Option.{Option, none, some, get_or}
use Rattle.std.proofs.Math.Dec.{leb}
use Rattle.std.proofs.Math.ListN.{take}
use Rattle.std.proofs.Common.{eqb-true}
use Rattle.rules.specs.Text.{ascii, is_digit, every, fits, fits_sign, digits, digits_from, then, given, is_some}
use Rattle.rules.specs.Accounts.{passes}
use Rattle.rules.specs.Lines.{Line}
use Rattle.rules.specs.Register.{Account, account_line}
use Rattle.laws.specs.Tests.{cond_left, cond_right, never}

-- `IBAN,low,high`
abbrev pub account_form : List ℕ
account_form = ascii "cccccccccccccccccccccc,nnnnnn,nnnnnn"

-- the number of a bound's digits
unfoldable pub bound : List ℕ → ℕ
bound cs = get_or (digits cs) 0

-- ---- parts of what fits

fits_drop : (k : ℕ) (p cs : List ℕ) → fits p cs ≡ true → fits (drop k p) (drop k cs) ≡ true
unfolding fits
fits_drop zero p cs h = h
fits_drop (suc k) [] [] h = h
fits_drop (suc k) [] (c ∷ cs) h = never h
fits_drop (suc k) (x ∷ p) [] h = never h
fits_drop (suc k) (x ∷ p) (c ∷ cs) h = fits_drop k p cs (cond_right (fits_sign x c) _ h)

fits_take : (k : ℕ) (p cs : List ℕ) → fits p cs ≡ true → fits (take k p) (take k cs) ≡ true
unfolding fits
fits_take zero p cs h = refl
fits_take (suc k) [] [] h = h
fits_take (suc k) [] (c ∷ cs) h = never h
fits_take (suc k) (x ∷ p) [] h = never h
fits_take (suc k) (x ∷ p) (c ∷ cs) h = rw (cond_left (fits_sign x c) _ h) (fits_take k p cs (cond_right (fits_sign x c) _ h))

-- digits are a number
fits_digits : (p cs : List ℕ) (v : ℕ) → every (eqb 110) p ≡ true → fits p cs ≡ true → is_some (digits_from v cs) ≡ true
unfolding fits digits_from every fits_sign
fits_digits [] [] v i h = refl
fits_digits [] (c ∷ cs) v i h = never h
fits_digits (x ∷ p) [] v i h = never h
fits_digits (x ∷ p) (c ∷ cs) v i h =
    let e : 110 ≡ x = eqb-true 110 x (cond_left _ _ i) in
    let d : cond (is_digit c) (fits p cs) false ≡ true = rw (← e) at h in
    rw (cond_left (is_digit c) _ d) (fits_digits p cs (v * 10 + (c - 48)) (cond_right (eqb 110 x) _ i) (cond_right (is_digit c) _ d))

module _ (l : Line) where
  -- six digits of a line that has its form
  six : (k : ℕ) → every (eqb 110) (take 6 (drop k account_form)) ≡ true → fits account_form l ≡ true → is_some (digits (take 6 (drop k l))) ≡ true
  six k i h = fits_digits (take 6 (drop k account_form)) (take 6 (drop k l)) 0 i (fits_take 6 (drop k account_form) (drop k l) (fits_drop k account_form l h))

  -- the account of a line
  unfoldable pub account_on : Account
  account_on = record { iban = take 22 l; low = bound (take 6 (drop 23 l)); high = bound (take 6 (drop 30 l)) }

  -- its tests
  unfoldable pub line_on : Bool
  line_on = fits account_form l && passes (take 22 l) && leb (bound (take 6 (drop 23 l))) (bound (take 6 (drop 30 l)))

  pub account_line_lem : account_line l ≡ given line_on account_on
  unfolding account_line line_on account_on bound every
  account_line_lem = go (fits account_form l) (digits (take 6 (drop 23 l))) (digits (take 6 (drop 30 l))) (six 23 refl) (six 30 refl)
    where
      go : (f : Bool) (o u : Option ℕ) → (f ≡ true → is_some o ≡ true) → (f ≡ true → is_some u ≡ true)
          → then {B = Account} o (λ low. then {B = Account} u (λ high. given (f && passes (take 22 l) && leb low high) record { iban = take 22 l; low = low; high = high }))
          ≡ given (f && passes (take 22 l) && leb (get_or o 0) (get_or u 0)) record { iban = take 22 l; low = get_or o 0; high = get_or u 0 }
      go f (some low) (some high) i j = refl
      go true none u i j = never (i refl)
      go true (some low) none i j = never (j refl)
      go false none u i j = refl
      go false (some low) none i j = refl
