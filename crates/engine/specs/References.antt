-- A bank's reference compared with those of an area: its bytes against a text that ends at the first zero.
use Rattle.std.specs.Prelude.{◌≡◌, Bool, cond, ℕ, suc, ◌+◌, ◌-◌, ◌*◌, ◌≤◌, ◌<◌, eqb, length, get_or, take, drop}
use Rattle.std.specs.Prelude.{nat_lt}
use Rattle.std.proofs.lemmas.Bool.{cases_lt}
use borrow.Author.Tests.{le-leb, lt-leb}
use Rattle.std.proofs.Math.Path.{refl, ap}
use Rattle.std.proofs.Common.{sym, ◌∙◌, arith, eqb-true, eq-eqb, ne_eqb, inl, inr, lit≤, drop-cons, drop_of_length-le}
use Rattle.std.proofs.Math.Bool.{true, false, and-true, and-false}
use mathlib.Core.List.{List, [], ◌∷◌}
use Rattle.std.proofs.Math.Nat.{add-zero, sub-zero}
use Rattle.rules.specs.Text.{is_text, every, equal, any, text_before}
use Rattle.rules.specs.Engine.{Reference, same_reference}
use Rattle.rules.specs.Area.{until_zero, reference_in, record_size, number_at, references_place}
use Rattle.laws.specs.Parts.{cut}
use Rattle.laws.specs.Slices.{part_cut}
use Rattle.laws.specs.Tests.{cond_left, cond_right}
use Rattle.engine_laws.specs.Checked.{text_in}
use Rattle.engine_laws.specs.Layout.{text_byte}
use Rattle.engine_laws.specs.Records.{number_within}
use Rattle.engine_laws.specs.Tests.{value_at, precedes_by}
use Rattle.engine.specs.Numbers.{NumberAt}
use Rattle.engine.specs.Positions.{values_at, values_next, values_none}

-- a bank's reference
abbrev pub of_bank : ℕ → List ℕ → Reference
of_bank bank text = record { sender = bank; text = text }

-- the reference at a place, and those of an area
abbrev pub reference_at : List ℕ → ℕ → Reference
reference_at area p = value_at reference_in area p

abbrev pub references_at : List ℕ → ℕ → ℕ → List Reference
references_at area p k = values_at reference_in area p k

-- ---- where a text ends

module _ (ys : List ℕ) (n : ℕ) where
  pub ends_byte : n < length ys → eqb (get_or ys n 0) 0 ≡ equal [] (until_zero (drop n ys))
  unfolding equal until_zero
  ends_byte h = rw (drop-cons ys n 0 h) (go (eqb (get_or ys n 0) 0))
    where
      go : (t : Bool) → t ≡ equal [] (cond t [] (get_or ys n 0 ∷ until_zero (drop (suc n) ys)))
      go true = refl
      go false = refl

  pub ends_room : length ys ≤ n → true ≡ equal [] (until_zero (drop n ys))
  unfolding equal until_zero
  ends_room h = rw (drop_of_length-le ys h)

-- ---- a text against bytes that are a text's, so none of them is zero

-- its first bytes are they, and it ends behind them
until_equal : (xs ys : List ℕ) → every is_text xs ≡ true → length xs ≤ length ys
    → equal xs (until_zero ys) ≡ cond (equal xs (take (length xs) ys)) (equal [] (until_zero (drop (length xs) ys))) false
unfolding every equal until_zero
until_equal [] ys t h = refl
until_equal (x ∷ xs) [] t h = absurd (omega arith)
until_equal (x ∷ xs) (y ∷ ys) t h = go (eqb y 0) refl (eqb x y) refl (until_equal xs ys (cond_right (is_text x) (every is_text xs) t) (omega arith))
  where
    go : (z : Bool) → eqb y 0 ≡ z → (e : Bool) → eqb x y ≡ e → equal xs (until_zero ys) ≡ cond (equal xs (take (length xs) ys)) (equal [] (until_zero (drop (length xs) ys))) false
        → equal (x ∷ xs) (until_zero (y ∷ ys)) ≡ cond (equal (x ∷ xs) (y ∷ take (length xs) ys)) (equal [] (until_zero (drop (length xs) ys))) false
    go true f e g i =
        let w : eqb x y ≡ false = ap (eqb x) (eqb-true y 0 f) ∙ text_byte x (cond_left (is_text x) (every is_text xs) t) in
        rw (f, w)
    go false f true g i = rw (f, g) i
    go false f false g i = rw (f, g)

module _ (xs ys : List ℕ) (h : length xs ≤ 16) (l : length ys ≡ 16) (t : every is_text xs ≡ true) (r : Bool) (u : r ≡ equal xs (take (length xs) ys)) where
  whole : equal xs (until_zero ys) ≡ cond r (equal [] (until_zero (drop (length xs) ys))) false
  whole = until_equal xs ys t (omega arith) ∙ rw (← u)

  pub text_other : r ≡ false → false ≡ equal xs (until_zero ys)
  text_other d = sym (whole ∙ rw d)

  pub text_same : r ≡ true → {x : Bool} → x ≡ equal [] (until_zero (drop (length xs) ys)) → x ≡ equal xs (until_zero ys)
  text_same d v = v ∙ sym (whole ∙ rw d)

-- ---- one reference

module _ (area : List ℕ) (p : ℕ) where
  pub sender_at : (reference_at area p).sender ≡ number_at area p 8
  unfolding value_at reference_in
  sender_at = rw add-zero at (number_within area p record_size 0 8 (lit≤ tt))

  pub text_at_lem : (reference_at area p).text ≡ until_zero (cut area (p + 8) (p + 8 + 16))
  unfolding value_at reference_in
  text_at_lem = ap until_zero (sym (text_in area p))

  -- the bytes of its text, as a slice
  pub text_stands : {t : List ℕ} → t ≡ take (p + record_size - (p + 8)) (drop (p + 8) area) → t ≡ cut area (p + 8) (p + 8 + 16)
  text_stands g = let e : p + record_size ≡ p + 8 + 16 = omega arith in rw e at (g ∙ part_cut area (p + 8) (p + record_size) (omega arith))

  module _ (bank : ℕ) (cs : List ℕ) (t : Bool) (u : t ≡ equal cs (until_zero (take (p + record_size - (p + 8)) (drop (p + 8) area)))) where
    told : t ≡ equal cs (reference_at area p).text
    told = rw (text_stands refl, ← text_at_lem) at u

    pub reference_other : t ≡ false → false ≡ same_reference (of_bank bank cs) (reference_at area p)
    unfolding same_reference
    reference_other d = rw (← told, d, and-false)

    pub reference_bank : t ≡ true → (v : ℕ) → NumberAt area p 8 v → eqb bank v ≡ same_reference (of_bank bank cs) (reference_at area p)
    unfolding same_reference
    reference_bank d v n = rw (sender_at, ← n.value, ← told, d, and-true)

-- a sender with its text before another
module _ (x y : ℕ) (s t : List ℕ) where
  pub sender_same : x ≡ y → (r : Bool) → r ≡ text_before s t → r ≡ precedes_by x s y t
  unfolding precedes_by
  sender_same e r f = f ∙ rw (le-leb y x (omega arith), eq-eqb x y e) refl

  pub sender_other : (x ≡ y → ⊥) → nat_lt x y ≡ precedes_by x s y t
  unfolding precedes_by
  sender_other n = elim (cases_lt x y) [
    | inl h ↦ rw (le-leb (suc x) y (omega arith), lt-leb y x h) refl
    | inr h ↦ rw (lt-leb (suc x) y (omega arith), le-leb y x h, ne_eqb x y n) refl
  ]

-- ---- among those of an area: k records from p on

module _ (area : List ℕ) (r : Reference) (p k : ℕ) (x : Bool) (m : any (same_reference r) (references_at area p k) ≡ x) where
  pub none_among : k ≤ 0 → false ≡ x
  unfolding any
  none_among h = rw (values_none reference_in area p k h) at m

  module _ (h : 0 < k) (t : Bool) (u : t ≡ same_reference r (reference_at area p)) where
    pub one_among : t ≡ true → true ≡ x
    unfolding any
    one_among d = rw (values_next reference_in area p k h, ← u, d) at m

    pub others_among : t ≡ false → any (same_reference r) (references_at area (p + record_size) (k - 1)) ≡ x
    unfolding any
    others_among d = rw (values_next reference_in area p k h, ← u, d) at m

-- ---- the records from the i-th of n on answer for all

pub record Among (area : List ℕ) (n : ℕ) (r : Reference) (i : ℕ) : Type 0 where
  pub same : any (same_reference r) (references_at area (references_place + record_size * i) (n - i)) ≡ any (same_reference r) (references_at area references_place n)

module _ (area : List ℕ) (n : ℕ) (r : Reference) where
  pub among_start : Among area n r 0
  among_start = record { same = rw sub-zero }

  module _ (i : ℕ) (m : Among area n r i) where
    pub among_end : n ≤ i → false ≡ any (same_reference r) (references_at area references_place n)
    among_end h = none_among area r (references_place + record_size * i) (n - i) _ m.same (omega arith)

    module _ (h : i < n) (t : Bool) (u : t ≡ same_reference r (reference_at area (references_place + record_size * i))) where
      pub among_found : t ≡ true → true ≡ any (same_reference r) (references_at area references_place n)
      among_found d = one_among area r (references_place + record_size * i) (n - i) _ m.same (omega arith) t u d

      pub among_on : t ≡ false → Among area n r (i + 1)
      among_on d =
          let e : references_place + record_size * i + record_size ≡ references_place + record_size * (i + 1) = omega arith in
          let f : n - i - 1 ≡ n - (i + 1) = omega arith in
          record { same = rw (e, f) at (others_among area r (references_place + record_size * i) (n - i) _ m.same (omega arith) t u d) }

pub ruleset used = (ends_byte, ends_room, text_other, text_same, reference_other, reference_bank, among_start, among_end, among_found, among_on)
