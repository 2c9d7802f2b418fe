-- The texts of an area: the place of text k by the lengths of those before it; in an area that holds an engine the register, the holiday list, and the temporary account at the register's front.
use Rattle.std.specs.Prelude.{◌≡◌, refl, true, List, ℕ, ◌+◌, ◌-◌, ◌*◌, ◌≤◌, length, take, drop}
use Rattle.std.proofs.Common.{sym, ◌∙◌, add-one}
use native.Mathlib.Omega.{arith}
use Rattle.std.proofs.Math.ListN.{length-take}
use Rattle.std.proofs.Math.Seq.{take-take}
use Rattle.rules.specs.Text.{is_some}
use Rattle.rules.specs.BankingDays.{holidays}
use Rattle.rules.specs.Register.{register, register_of}
use Rattle.rules.specs.Area.{length_at, text_place, text_at, decode, holds, lengths_place, texts_place}
use Rattle.laws.specs.Parts.{cut}
use Rattle.engine_laws.specs.Several.{TextRoom}
use Rattle.engine_laws.specs.Decoded.{decoded, decoded_limits, decoded_text}
use Rattle.engine.specs.Numbers.{NumberAt}
use Rattle.register.specs.Passed.{temporary_at_lem, text_first}

-- ---- text k

-- p is the place of text k, behind k texts of less than 65,536 bytes
pub record PlaceAt (a : List ℕ) (k p : ℕ) : Type 0 where
  pub value : p ≡ text_place a k
  pub small : p ≤ texts_place + 65536 * k

module _ (a : List ℕ) where
  pub place_first : PlaceAt a 0 texts_place
  unfolding text_place
  place_first = record { value = refl; small = omega arith }

  pub place_next : (k : ℕ) {p n : ℕ} → PlaceAt a k p → NumberAt a (lengths_place + 2 * k) 2 n → PlaceAt a (k + 1) (p + n)
  unfolding text_place
  place_next k {p} {n} q l = record { value = rw (add-one k, q.value, l.value); small = omega (arith, q.small, l.small) }

  pub place_last : (k n : ℕ) {p : ℕ} → PlaceAt a k p → k ≤ n → n ≤ k → PlaceAt a n p
  place_last k n q h j = let e : k ≡ n = omega arith in rw e at q

  -- its bytes
  module _ (k : ℕ) (r : TextRoom a k (length_at a k)) {p n : ℕ} (q : PlaceAt a k p) (l : NumberAt a (lengths_place + 2 * k) 2 n) where
    pub text_ends : p + n ≤ length a
    text_ends = omega (arith, q.value, l.value, r.fits, r.long)

    pub text_told : {t : List ℕ} → t ≡ take (p + n - p) (drop p a) → t ≡ text_at a k
    unfolding text_at
    text_told e = let m : p + n - p ≡ n = omega arith in e ∙ rw (m, q.value, l.value)

-- ---- the register

-- t is the register's text, which passes 9
pub record RegisterOf (a t : List ℕ) : Type 0 where
  pub same : t ≡ (decode a).register
  pub passes : is_some (register t) ≡ true
  pub enough : 22 ≤ length t

-- t is the holiday list, which passes 18
pub record ListOf (a t : List ℕ) : Type 0 where
  pub same : t ≡ (decode a).holidays
  pub passes : is_some (holidays t) ≡ true

module _ (a : List ℕ) (h : is_some (holds a) ≡ true) where
  pub text_room : 2342 ≤ length a
  text_room = omega (arith, (decoded a h).long)

  -- it is text 0
  pub register_room : TextRoom a 0 (length_at a 0)
  register_room = decoded_text a h 0 (omega arith)

  pub register_told : {t : List ℕ} → t ≡ text_at a 0 → RegisterOf a t
  unfolding decode
  register_told e =
      record { same = e; passes = rw e (decoded_limits a h).register; enough = rw e (omega (arith, text_first (decode a).register (decoded_limits a h).register)) }

  -- ---- the holiday list, text 1

  pub list_room : TextRoom a 1 (length_at a 1)
  list_room = decoded_text a h 1 (omega arith)

  pub list_told : {t : List ℕ} → t ≡ text_at a 1 → ListOf a t
  unfolding decode
  list_told e = record { same = e; passes = rw e (decoded_limits a h).holidays }

  -- ---- the temporary account, at the register's front

  begins : (n : ℕ) (cs : List ℕ) → is_some (register (take n cs)) ≡ true → (register_of (take n cs)).temporary ≡ take 22 cs
  unfolding cut
  begins n cs p = temporary_at_lem (take n cs) p ∙ take-take 22 n cs (omega (arith, text_first (take n cs) p, length-take n cs))

  pub temporary_stands : (register_of (decode a).register).temporary ≡ take 22 (drop texts_place a)
  unfolding decode text_at text_place
  temporary_stands = begins (length_at a 0) (drop texts_place a) (decoded_limits a h).register

  pub temporary_told : {t : List ℕ} → t ≡ take 22 (drop texts_place a) → t ≡ (register_of (decode a).register).temporary
  temporary_told e = e ∙ sym temporary_stands

pub ruleset lettering = (place_first, place_next, place_last, text_ends, text_told, text_room, register_room, register_told, list_room, list_told, temporary_told)
