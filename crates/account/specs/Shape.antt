-- The shapes of a BIC and an IBAN in runs of one class, and what a right shape tells of each run.
use Rattle.std.specs.Prelude.{◌≡◌, Bool, true, false, ◌&&◌, not, cond, List, [], ◌∷◌, ℕ, eqb, length, get_or, take, drop, ◌+◌, ◌-◌, ◌≤◌, ◌<◌}
use Rattle.std.proofs.Math.Path.{refl, sym, ap}
use Rattle.std.proofs.Common.{take-take, ◌∙◌, eq-eqb, ne_eqb, eqb-true}
use native.Mathlib.Omega.{arith}
use borrow.Author.Tests.{not-true}
use Rattle.rules.specs.Text.{ascii, is_digit, is_letter, is_alnum, every, fits, fits_sign}
use Rattle.rules.specs.Accounts.{is_bic, iban_shape}
use Rattle.laws.specs.Parts.{cut, cut_all, cut_drop, cut_take}
use Rattle.laws.specs.Tests.{and_left, and_right, cond_left, cond_right, and_holds, and_failed, and_off, not_holds}
use Rattle.laws.specs.Reading.{fits_length, fits_short}
use Rattle.laws.specs.Every.{every_within, every_first}
use Rattle.laws.specs.Places.{Passed}
use Rattle.laws.specs.Slices.{part_cut}
use Rattle.laws.specs.Patterns.{cond_and, digit_sign, letter_sign, alnum_sign, fits_sign_lem, fits_run, fits_last}
use Rattle.rule_laws.specs.Groups.{Four, Four.four, four_of, iban_length}

-- a pattern from the first byte on
whole : (p s : List ℕ) (n : ℕ) → length s ≡ n → fits p s ≡ fits p (cut s 0 n)
whole p s n e = rw (← e, cut_all s)

-- ---- a BIC

-- at a place
module _ (s : List ℕ) (at : ℕ) where
  pub bic_short : length s - at < 8 → false ≡ is_bic (cut s at (at + 8))
  unfolding is_bic
  bic_short h = fits_short (ascii "aaaaaacc") s at h

  pub bic_runs : at ≤ length s → 8 ≤ length s - at → (r : Bool) → r ≡ (every is_letter (cut s at (at + 6)) && every is_alnum (cut s (at + 6) (at + 6 + 2))) → r ≡ is_bic (cut s at (at + 8))
  unfolding is_bic
  bic_runs h k r e =
      e ∙ sym (fits_run 97 is_letter letter_sign (ascii "cc") s 6 at (at + 8) (omega arith) (omega arith) ∙ rw (fits_last 99 is_alnum alnum_sign s 2 (at + 6) (at + 8) (omega arith) (omega arith)))

module _ (s : List ℕ) where
  pub bic_long : (length s ≡ 8 → ⊥) → false ≡ is_bic s
  unfolding is_bic
  bic_long h = not_holds _ (λ q. h (sym (fits_length (ascii "aaaaaacc") s q)))

  bic_parts : length s ≡ 8 → is_bic s ≡ (every is_letter (take 6 s) && every is_alnum (take 2 (drop 6 s)))
  unfolding is_bic cut
  bic_parts e =
      whole (ascii "aaaaaacc") s 8 e
      ∙ fits_run 97 is_letter letter_sign (ascii "cc") s 6 0 8 (omega arith) (omega arith)
      ∙ rw (fits_last 99 is_alnum alnum_sign s 2 6 8 (omega arith) (omega arith), part_cut s 6 8 (omega arith))

  module _ (e : length s ≡ 8) (t : Bool) (u : t ≡ every is_letter (take 6 s)) where
    pub bic_letters : t ≡ true → (r : Bool) → r ≡ every is_alnum (take 2 (drop 6 s)) → r ≡ is_bic s
    bic_letters h r w = and_holds _ _ t r u h w ∙ sym (bic_parts e)

    pub bic_none : t ≡ false → t ≡ is_bic s
    bic_none h = and_failed _ _ t u h ∙ sym (bic_parts e)

-- ---- an IBAN

-- `BG` and two control digits
unfoldable pub iban_head : List ℕ → Bool
iban_head s = fits (ascii "BGnn") (take 4 s)

-- the runs behind them
abbrev pub iban_tail : List ℕ → Bool
iban_tail s = every is_letter (take 4 (drop 4 s)) && (every is_digit (take 6 (drop 8 s)) && every is_alnum (take 8 (drop 14 s)))

-- at a place
module _ (s : List ℕ) (at : ℕ) where
  pub shape_short : length s - at < 22 → false ≡ iban_shape (cut s at (at + 22))
  unfolding iban_shape
  shape_short h = fits_short (ascii "BGnnaaaannnnnncccccccc") s at h

module _ (s : List ℕ) (at : ℕ) (l : at + 4 ≤ length s) where
  head_signs : iban_head (cut s at (at + 4)) ≡ cond (eqb 66 (get_or s at 0)) (cond (eqb 71 (get_or s (at + 1) 0)) (every is_digit (cut s (at + 2) (at + 2 + 2))) false) false
  unfolding iban_head fits_sign
  head_signs =
      let e : at + 1 + 1 ≡ at + 2 = omega arith in
      ap (fits (ascii "BGnn")) (cut_take s at (at + 4) 4 (omega arith)) ∙ fits_sign_lem 66 (ascii "Gnn") s at (at + 4) (omega arith) l
      ∙ rw (fits_sign_lem 71 (ascii "nn") s (at + 1) (at + 4) (omega arith) l, e, fits_last 110 is_digit digit_sign s 2 (at + 2) (at + 4) (omega arith) l)

  pub head_first : (get_or s at 0 ≡ 66 → ⊥) → false ≡ iban_head (cut s at (at + 4))
  head_first h = rw (head_signs, ne_eqb 66 (get_or s at 0) (λ e. h (sym e)))

  module _ (b : get_or s at 0 ≡ 66) where
    pub head_second : (get_or s (at + 1) 0 ≡ 71 → ⊥) → false ≡ iban_head (cut s at (at + 4))
    head_second h = rw (head_signs, eq-eqb 66 (get_or s at 0) (sym b), ne_eqb 71 (get_or s (at + 1) 0) (λ e. h (sym e)))

    pub head_digits : get_or s (at + 1) 0 ≡ 71 → (r : ℕ) → Passed is_digit s (at + 2) 2 r → eqb r 2 ≡ iban_head (cut s at (at + 4))
    head_digits g r w = rw (head_signs, eq-eqb 66 (get_or s at 0) (sym b), eq-eqb 71 (get_or s (at + 1) 0) (sym g)) w.whole

-- of 22 characters
module _ (s : List ℕ) (l : length s ≡ 22) where
  head_parts : iban_head s ≡ cond (eqb 66 (get_or s 0 0)) (cond (eqb 71 (get_or s 1 0)) (every is_digit (take 2 (drop 2 s))) false) false
  unfolding iban_head cut
  head_parts = ap (fits (ascii "BGnn")) (sym (take-take 4 4 s (omega arith))) ∙ rw (part_cut s 2 4 (omega arith)) (head_signs s 0 (omega arith))

  pub letters_first : (get_or s 0 0 ≡ 66 → ⊥) → false ≡ iban_head s
  letters_first h = rw (head_parts, ne_eqb 66 (get_or s 0 0) (λ e. h (sym e)))

  module _ (b : get_or s 0 0 ≡ 66) where
    pub letters_second : (get_or s 1 0 ≡ 71 → ⊥) → false ≡ iban_head s
    letters_second h = rw (head_parts, eq-eqb 66 (get_or s 0 0) (sym b), ne_eqb 71 (get_or s 1 0) (λ e. h (sym e)))

    pub letters_digits : get_or s 1 0 ≡ 71 → (r : Bool) → r ≡ every is_digit (take 2 (drop 2 s)) → r ≡ iban_head s
    letters_digits g r w = rw (head_parts, eq-eqb 66 (get_or s 0 0) (sym b), eq-eqb 71 (get_or s 1 0) (sym g)) w

module _ (s : List ℕ) where
  pub shape_long : (length s ≡ 22 → ⊥) → false ≡ iban_shape s
  shape_long h = not_holds _ (λ q. h (iban_length s q))

  runs : length s ≡ 22 → iban_shape s ≡ (iban_head s && iban_tail s)
  unfolding iban_shape fits_sign
  runs l =
      let behind : fits (ascii "aaaannnnnncccccccc") (cut s 4 22) ≡ iban_tail s =
      fits_run 97 is_letter letter_sign (ascii "nnnnnncccccccc") s 4 4 22 (omega arith) (omega arith)
      ∙ rw (
        fits_run 110 is_digit digit_sign (ascii "cccccccc") s 6 8 22 (omega arith) (omega arith),
        fits_last 99 is_alnum alnum_sign s 8 14 22 (omega arith) (omega arith),
        part_cut s 4 8 (omega arith),
        part_cut s 8 14 (omega arith),
        part_cut s 14 22 (omega arith),
      ) in
      whole (ascii "BGnnaaaannnnnncccccccc") s 22 l
      ∙ fits_sign_lem 66 (ascii "Gnnaaaannnnnncccccccc") s 0 22 (omega arith) (omega arith)
      ∙ rw (
        fits_sign_lem 71 (ascii "nnaaaannnnnncccccccc") s 1 22 (omega arith) (omega arith),
        fits_run 110 is_digit digit_sign (ascii "aaaannnnnncccccccc") s 2 2 22 (omega arith) (omega arith),
        behind,
        head_parts s l,
        part_cut s 2 4 (omega arith),
        cond_and,
        cond_and,
      )

  module _ (l : length s ≡ 22) (t : Bool) (u : t ≡ iban_head s) where
    pub shape_headed : t ≡ true → (r : Bool) → r ≡ iban_tail s → r ≡ iban_shape s
    shape_headed h r e = and_holds _ _ t r u h e ∙ sym (runs l)

    pub shape_unheaded : t ≡ false → t ≡ iban_shape s
    shape_unheaded h = and_failed _ _ t u h ∙ sym (runs l)

-- a test that failed
pub not_told : (a b t : Bool) → t ≡ a → not t ≡ true → false ≡ (a && b)
not_told a b t u h = and_off a b t u (not-true t h)

-- what a right shape tells
pub record Shaped (s : List ℕ) : Type 0 where
  pub first : get_or s 0 0 ≡ 66
  pub second : get_or s 1 0 ≡ 71
  pub third : is_digit (get_or s 2 0) ≡ true
  pub fourth : is_digit (get_or s 3 0) ≡ true
  pub front : take 4 s ≡ get_or s 0 0 ∷ get_or s 1 0 ∷ get_or s 2 0 ∷ get_or s 3 0 ∷ []
  pub control : every is_digit (take 2 (drop 2 s)) ≡ true
  pub bank : every is_letter (take 4 (drop 4 s)) ≡ true
  pub branch : every is_digit (take 6 (drop 8 s)) ≡ true
  pub account : every is_alnum (take 8 (drop 14 s)) ≡ true

pub shape_told : (s : List ℕ) → iban_shape s ≡ true → Shaped s
unfolding every
shape_told s h =
    let l : length s ≡ 22 = iban_length s h in
    let all : (iban_head s && iban_tail s) ≡ true = sym (runs s l) ∙ h in
    let head : cond (eqb 66 (get_or s 0 0)) (cond (eqb 71 (get_or s 1 0)) (every is_digit (take 2 (drop 2 s))) false) false ≡ true = sym (head_parts s l) ∙ and_left _ _ all in
    let rest = and_right (iban_head s) _ all in
    let tail = and_right (every is_letter (take 4 (drop 4 s))) _ rest in
    let two = cond_right (eqb 66 (get_or s 0 0)) _ head in
    let both : every is_digit (cut s 2 4) ≡ true = rw (← part_cut s 2 4 (omega arith)) (cond_right (eqb 71 (get_or s 1 0)) _ two) in record {
      first = sym (eqb-true 66 (get_or s 0 0) (cond_left _ _ head));
      second = sym (eqb-true 71 (get_or s 1 0) (cond_left _ _ two));
      third = every_first is_digit s 2 4 both (omega arith) (omega arith);
      fourth = every_first is_digit s 3 4 (every_within is_digit s 2 4 3 4 both (omega arith) (omega arith) (omega arith)) (omega arith) (omega arith);
      front = go (four_of s (omega arith));
      control = cond_right (eqb 71 (get_or s 1 0)) _ two;
      bank = and_left _ _ rest;
      branch = and_left _ _ tail;
      account = and_right (every is_digit (take 6 (drop 8 s))) _ tail;
    }
  where
    go : {xs : List ℕ} → Four xs → take 4 xs ≡ get_or xs 0 0 ∷ get_or xs 1 0 ∷ get_or xs 2 0 ∷ get_or xs 3 0 ∷ []
    go (four a b c d more) = refl

-- of the 22 bytes at a place
module _ (s : List ℕ) (at : ℕ) (l : at + 22 ≤ length s) (h : iban_shape (cut s at (at + 22)) ≡ true) where
  told : Shaped (cut s at (at + 22))
  told = shape_told (cut s at (at + 22)) h

  -- run k of n bytes
  run_at : (k n : ℕ) → k + n ≤ 22 → take n (drop k (cut s at (at + 22))) ≡ cut s (at + k) (at + k + n)
  run_at k n m = ap (λ (x : List ℕ). take n x) (cut_drop s at (at + 22) k) ∙ cut_take s (at + k) (at + 22) n (omega arith)

  pub told_control : every is_digit (cut s (at + 2) (at + 2 + 2)) ≡ true
  told_control = rw (run_at 2 2 (omega arith)) at told.control

  pub told_bank : every is_letter (cut s (at + 4) (at + 4 + 4)) ≡ true
  told_bank = rw (run_at 4 4 (omega arith)) at told.bank

  pub told_branch : every is_digit (cut s (at + 8) (at + 8 + 6)) ≡ true
  told_branch = rw (run_at 8 6 (omega arith)) at told.branch

  pub told_account : every is_alnum (cut s (at + 14) (at + 14 + 8)) ≡ true
  told_account = rw (run_at 14 8 (omega arith)) at told.account

pub ruleset shapes = (bic_long, bic_letters, bic_none, letters_first, letters_second, letters_digits, shape_long, shape_headed, shape_unheaded, and_holds, and_failed, and_off, not_told)
