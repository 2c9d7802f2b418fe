-- The forms of lines, part by part: the signs of an account line's IBAN follow from the IBAN's shape, and behind it stand two bounds, a comma before each; a code line has a comma between ten digits and 22 letters or digits.
use Rattle.std.specs.Prelude.{◌≡◌, Bool, true, false, ◌&&◌, not, cond, ℕ, ◌+◌, ◌-◌, ◌≤◌, ◌<◌, leb, eqb, length, get_or, take, drop}
use Rattle.std.proofs.Common.{sym, ◌∙◌, eq-eqb, ne_eqb, take_all}
use mathlib.Core.List.{List, [], ◌∷◌}
use Rattle.std.proofs.Math.Option.{some}
use native.Mathlib.Omega.{arith}
use borrow.Author.Tests.{not-true, not-false}
use Rattle.rules.specs.Text.{ascii, is_digit, is_alnum, digits, equal, every, fits, fits_sign}
use Rattle.rules.specs.Accounts.{passes}
use Rattle.laws.specs.Parts.{cut, cut_done}
use Rattle.laws.specs.Tests.{and_left, and_right, cond_right, either}
use Rattle.laws.specs.Equal.{equal_true, equal_same}
use Rattle.laws.specs.Slices.{part_cut}
use Rattle.laws.specs.Places.{Passed, passed_all}
use Rattle.laws.specs.Values.{Valued}
use Rattle.laws.specs.Patterns.{digit_sign, alnum_sign, fits_sign_lem, fits_run, fits_last}
use Rattle.rule_laws.specs.Signs.{iban_alnum}
use Rattle.register_lines.specs.AccountLine.{bound}
use Rattle.register_lines.specs.Blocks.{crlf, crlf_is}
use Rattle.register_lines.specs.Places.{form_at, ends_at, bound_at, code_stands}

-- ---- the bounds behind it

-- `,low,high` at a place
unfoldable pub bounds_at : List ℕ → ℕ → Bool
bounds_at s at = fits (ascii ",nnnnnn,nnnnnn") (cut s at (at + 14))

-- the form of a line whose IBAN passes
pub form_bounds : (s : List ℕ) (at : ℕ) → at + 36 ≤ length s → passes (cut s at (at + 22)) ≡ true → form_at s at ≡ bounds_at s (at + 22)
unfolding form_at bounds_at passes
form_bounds s at l h =
    let e : at + 22 + 14 ≡ at + 36 = omega arith in
    fits_run 99 is_alnum alnum_sign (ascii ",nnnnnn,nnnnnn") s 22 at (at + 36) (omega arith) l ∙ rw (iban_alnum (cut s at (at + 22)) (and_left _ _ h), e)

module _ (s : List ℕ) (at : ℕ) (l : at + 14 ≤ length s) where
  signs : bounds_at s at ≡ cond (eqb 44 (get_or s at 0)) (every is_digit (cut s (at + 1) (at + 1 + 6)) && cond (eqb 44 (get_or s (at + 7) 0)) (every is_digit (cut s (at + 8) (at + 8 + 6))) false) false
  unfolding bounds_at fits_sign
  signs =
      let e : at + 1 + 6 ≡ at + 7 = omega arith in
      let f : at + 7 + 1 ≡ at + 8 = omega arith in
      fits_sign_lem 44 (ascii "nnnnnn,nnnnnn") s at (at + 14) (omega arith) l
      ∙ rw (
        fits_run 110 is_digit digit_sign (ascii ",nnnnnn") s 6 (at + 1) (at + 14) (omega arith) l,
        e,
        fits_sign_lem 44 (ascii "nnnnnn") s (at + 7) (at + 14) (omega arith) l,
        f,
        fits_last 110 is_digit digit_sign s 6 (at + 8) (at + 14) (omega arith) l,
      )

  pub bounds_comma : (get_or s at 0 ≡ 44 → ⊥) → false ≡ bounds_at s at
  bounds_comma h = rw (signs, ne_eqb 44 (get_or s at 0) (λ e. h (sym e)))

  module _ (c : get_or s at 0 ≡ 44) (r : ℕ) (w : Passed is_digit s (at + 1) 6 r) where
    pub bounds_low : r < 6 → false ≡ bounds_at s at
    bounds_low h = rw (signs, eq-eqb 44 (get_or s at 0) (sym c), ← w.whole, ne_eqb r 6 (λ (e : r ≡ 6). omega arith))

    module _ (k : 6 ≤ r) where
      pub bounds_second : (get_or s (at + 7) 0 ≡ 44 → ⊥) → false ≡ bounds_at s at
      bounds_second h = rw (signs, eq-eqb 44 (get_or s at 0) (sym c), passed_all is_digit s (at + 1) 6 r w k, ne_eqb 44 (get_or s (at + 7) 0) (λ e. h (sym e)))

      pub bounds_high : get_or s (at + 7) 0 ≡ 44 → (q : ℕ) → Passed is_digit s (at + 8) 6 q → eqb q 6 ≡ bounds_at s at
      bounds_high d q v = rw (signs, eq-eqb 44 (get_or s at 0) (sym c), passed_all is_digit s (at + 1) 6 r w k, eq-eqb 44 (get_or s (at + 7) 0) (sym d)) v.whole

  -- each bound has its digits
  module _ (h : bounds_at s at ≡ true) where
    digits_behind : (every is_digit (cut s (at + 1) (at + 1 + 6)) && cond (eqb 44 (get_or s (at + 7) 0)) (every is_digit (cut s (at + 8) (at + 8 + 6))) false) ≡ true
    digits_behind = cond_right (eqb 44 (get_or s at 0)) _ (sym signs ∙ h)

    pub low_digits : every is_digit (cut s (at + 1) (at + 1 + 6)) ≡ true
    low_digits = and_left _ _ digits_behind

    pub high_digits : every is_digit (cut s (at + 8) (at + 8 + 6)) ≡ true
    high_digits = cond_right (eqb 44 (get_or s (at + 7) 0)) _ (and_right (every is_digit (cut s (at + 1) (at + 1 + 6))) _ digits_behind)

-- of fourteen bytes, by the tests of the code
module _ (s : List ℕ) (l : length s ≡ 14) where
  parts : bounds_at s 0 ≡ cond (eqb 44 (get_or s 0 0)) (every is_digit (take 6 (drop 1 s)) && cond (eqb 44 (get_or s 7 0)) (every is_digit (take 6 (drop 8 s))) false) false
  parts = rw (part_cut s 1 7 (omega arith), part_cut s 8 14 (omega arith)) (signs s 0 (omega arith))

  pub fourteen_comma : (get_or s 0 0 ≡ 44 → ⊥) → false ≡ bounds_at s 0
  fourteen_comma h = rw (parts, ne_eqb 44 (get_or s 0 0) (λ e. h (sym e)))

  module _ (c : get_or s 0 0 ≡ 44) (t : Bool) (u : t ≡ every is_digit (take 6 (drop 1 s))) where
    pub fourteen_low : not t ≡ true → false ≡ bounds_at s 0
    fourteen_low h = rw (parts, eq-eqb 44 (get_or s 0 0) (sym c), ← u, not-true t h)

    module _ (k : not t ≡ false) where
      pub fourteen_second : (get_or s 7 0 ≡ 44 → ⊥) → false ≡ bounds_at s 0
      fourteen_second h = rw (parts, eq-eqb 44 (get_or s 0 0) (sym c), ← u, not-false t k, ne_eqb 44 (get_or s 7 0) (λ e. h (sym e)))

      pub fourteen_high : get_or s 7 0 ≡ 44 → (q : Bool) → q ≡ every is_digit (take 6 (drop 8 s)) → q ≡ bounds_at s 0
      fourteen_high d q v = rw (parts, eq-eqb 44 (get_or s 0 0) (sym c), ← u, not-false t k, eq-eqb 44 (get_or s 7 0) (sym d)) v

  -- each bound has its digits
  module _ (h : bounds_at s 0 ≡ true) where
    fourteen_behind : (every is_digit (take 6 (drop 1 s)) && cond (eqb 44 (get_or s 7 0)) (every is_digit (take 6 (drop 8 s))) false) ≡ true
    fourteen_behind = cond_right (eqb 44 (get_or s 0 0)) _ (sym parts ∙ h)

    pub fourteen_low_digits : every is_digit (take 6 (drop 1 s)) ≡ true
    fourteen_low_digits = and_left _ _ fourteen_behind

    pub fourteen_high_digits : every is_digit (take 6 (drop 8 s)) ≡ true
    fourteen_high_digits = cond_right (eqb 44 (get_or s 7 0)) _ (and_right (every is_digit (take 6 (drop 1 s))) _ fourteen_behind)

-- the number of a bound's digits
bound_at_valued : (s : List ℕ) (at r : ℕ) → Valued s at 6 r → r ≡ bound_at s at
unfolding bound_at bound
bound_at_valued s at r v = rw (← v.value)

pub bounds_ordered : (s : List ℕ) (a b low high : ℕ) → Valued s a 6 low → Valued s b 6 high → leb low high ≡ leb (bound_at s a) (bound_at s b)
bounds_ordered s a b low high v w = rw (← bound_at_valued s a low v, ← bound_at_valued s b high w)

-- as the slice of its digits
bound_valued : (s : List ℕ) (at r : ℕ) → some r ≡ digits (take (at + 6 - at) (drop at s)) → r ≡ bound_at s at
unfolding bound_at bound
bound_valued s at r v = rw (← part_cut s at (at + 6) (omega arith), ← v)

pub fourteen_ordered : (s : List ℕ) (low high : ℕ) → some low ≡ digits (take 6 (drop 1 s)) → some high ≡ digits (take 6 (drop 8 s)) → leb low high ≡ leb (bound_at s 1) (bound_at s 8)
fourteen_ordered s low high v w = rw (← bound_valued s 1 low v, ← bound_valued s 8 high w)

-- ---- a code line

module _ (s : List ℕ) (at : ℕ) (l : at + 35 ≤ length s) where
  pub code_signs : code_stands s at ≡ (every is_digit (cut s at (at + 10)) && cond (eqb 44 (get_or s (at + 10) 0)) (every is_alnum (cut s (at + 11) (at + 11 + 22))) false && ends_at s (at + 33))
  unfolding code_stands fits_sign
  code_signs =
      let e : at + 10 + 1 ≡ at + 11 = omega arith in
      rw (
        fits_run 110 is_digit digit_sign (ascii ",cccccccccccccccccccccc") s 10 at (at + 33) (omega arith) (omega arith),
        fits_sign_lem 44 (ascii "cccccccccccccccccccccc") s (at + 10) (at + 33) (omega arith) (omega arith),
        e,
        fits_last 99 is_alnum alnum_sign s 22 (at + 11) (at + 33) (omega arith) (omega arith),
      )

  module _ (r : ℕ) (w : Passed is_digit s at 10 r) where
    pub code_undigit : r < 10 → false ≡ code_stands s at
    code_undigit h = rw (code_signs, ← w.whole, ne_eqb r 10 (λ (e : r ≡ 10). omega arith))

    module _ (k : 10 ≤ r) where
      pub code_uncomma : (get_or s (at + 10) 0 ≡ 44 → ⊥) → false ≡ code_stands s at
      code_uncomma h = rw (code_signs, passed_all is_digit s at 10 r w k, ne_eqb 44 (get_or s (at + 10) 0) (λ e. h (sym e)))

      module _ (c : get_or s (at + 10) 0 ≡ 44) (q : ℕ) (v : Passed is_alnum s (at + 11) 22 q) where
        pub code_unsigned : q < 22 → false ≡ code_stands s at
        code_unsigned h = rw (code_signs, passed_all is_digit s at 10 r w k, eq-eqb 44 (get_or s (at + 10) 0) (sym c), ← v.whole, ne_eqb q 22 (λ (e : q ≡ 22). omega arith))

        pub code_ends : 22 ≤ q → (t : Bool) → t ≡ ends_at s (at + 33) → t ≡ code_stands s at
        code_ends h t e = rw (code_signs, passed_all is_digit s at 10 r w k, eq-eqb 44 (get_or s (at + 10) 0) (sym c), passed_all is_alnum s (at + 11) 22 q v h) e

-- ---- CR LF

-- two bytes are a line's end where they are equal to it
pub ends_equal : (s : List ℕ) → length s ≡ 2 → (t : Bool) → t ≡ equal s (13 ∷ 10 ∷ []) → t ≡ ends_at s 0
unfolding ends_at cut fits fits_sign
ends_equal s l t e = e ∙ rw (take_all 2 s (omega arith)) (either (equal s crlf) (fits crlf s) there back)
  where
    there : equal s crlf ≡ true → fits crlf s ≡ true
    there h = rw (equal_true s crlf h)

    back : fits crlf s ≡ true → equal s crlf ≡ true
    back h = rw (crlf_is s h) (equal_same crlf)

-- at a place
module _ (s : List ℕ) (at : ℕ) (l : at + 2 ≤ length s) where
  crlf_signs : ends_at s at ≡ cond (eqb 13 (get_or s at 0)) (cond (eqb 10 (get_or s (at + 1) 0)) true false) false
  unfolding ends_at fits_sign fits
  crlf_signs =
      let e : at + 1 + 1 ≡ at + 2 = omega arith in
      fits_sign_lem 13 (ascii "\n") s at (at + 2) (omega arith) l ∙ rw (fits_sign_lem 10 [] s (at + 1) (at + 2) (omega arith) l, e, cut_done s (at + 2) (at + 2) (omega arith) (omega arith))

  pub ends_first : (get_or s at 0 ≡ 13 → ⊥) → false ≡ ends_at s at
  ends_first h = rw (crlf_signs, ne_eqb 13 (get_or s at 0) (λ e. h (sym e)))

  module _ (c : get_or s at 0 ≡ 13) where
    pub ends_second : (get_or s (at + 1) 0 ≡ 10 → ⊥) → false ≡ ends_at s at
    ends_second h = rw (crlf_signs, eq-eqb 13 (get_or s at 0) (sym c), ne_eqb 10 (get_or s (at + 1) 0) (λ e. h (sym e)))

    pub ends_here : get_or s (at + 1) 0 ≡ 10 → true ≡ ends_at s at
    ends_here d = rw (crlf_signs, eq-eqb 13 (get_or s at 0) (sym c), eq-eqb 10 (get_or s (at + 1) 0) (sym d))

pub ruleset formed = (fourteen_comma, fourteen_low, fourteen_second, fourteen_high, fourteen_low_digits, fourteen_high_digits, fourteen_ordered, ends_equal)
