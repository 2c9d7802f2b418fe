-- Bytes or-ed together: the or is 0 exactly where each of them is.
use Rattle.std.specs.Prelude.{◌≡◌, refl, Bool, true, false, cond, List, ℕ, zero, suc, ◌+◌, ◌≤◌, eqb, length, get_or}
use Rattle.std.proofs.Common.{sym, ap, ◌∙◌, ne_eqb}
use native.Mathlib.Omega.{arith}
use Rattle.std.specs.Int.Bits.{bit_or, or_add_and, or_zero_l}
use Rattle.std.proofs.lemmas.Nat.{and_le_r}
use Rattle.rules.specs.Text.{every}
use Rattle.laws.specs.Parts.{cut, cut_step, cut_done}

or_least : (a b : ℕ) → a ≤ bit_or a b
or_least a b = omega (arith, or_add_and a b, and_le_r a b)

-- of two numbers
pub or_zero : (a b : ℕ) → eqb (bit_or a b) 0 ≡ cond (eqb a 0) (eqb b 0) false
or_zero zero b = ap (λ (n : ℕ). eqb n 0) (or_zero_l b)
or_zero (suc a) b =
    ne_eqb (bit_or (suc a) b) 0 (λ (e : bit_or (suc a) b ≡ 0). omega (arith, or_least (suc a) b))
    ∙ sym (ap (λ (t : Bool). cond t (eqb b 0) false) (ne_eqb (suc a) 0 (λ (e : suc a ≡ 0). omega arith)))

module _ (p : ℕ → Bool) (z : (c : ℕ) → p c ≡ eqb c 0) where
  -- of a number whose own test is known, and one more
  or_more : (a b : ℕ) (t : Bool) → eqb a 0 ≡ t → eqb (bit_or a b) 0 ≡ cond t (p b) false
  or_more a b t e = or_zero a b ∙ rw (e, z b)

  -- of four
  four : (a b c d : ℕ) → eqb (bit_or (bit_or (bit_or a b) c) d) 0 ≡ cond (p a) (cond (p b) (cond (p c) (cond (p d) true false) false) false) false
  four a b c d =
      or_more (bit_or (bit_or a b) c) d _ (or_more (bit_or a b) c _ (or_more a b (p a) (sym (z a))))
      ∙ go (p a) (p b) (p c) (p d)
    where
      go : (q r t u : Bool) → cond (cond (cond q r false) t false) u false ≡ cond q (cond r (cond t (cond u true false) false) false) false
      go true true true true = refl
      go true true true false = refl
      go true true false u = refl
      go true false t u = refl
      go false r t u = refl

  -- of the four bytes at a place
  pub four_ors : (s : List ℕ) (a : ℕ) → a + 4 ≤ length s → eqb (bit_or (bit_or (bit_or (get_or s a 0) (get_or s (a + 1) 0)) (get_or s (a + 2) 0)) (get_or s (a + 3) 0)) 0 ≡ every p (cut s a (a + 4))
  unfolding every
  four_ors s a l =
      let e : a + 1 + 1 ≡ a + 2 = omega arith in
      let f : a + 2 + 1 ≡ a + 3 = omega arith in
      let g : a + 3 + 1 ≡ a + 4 = omega arith in
      four (get_or s a 0) (get_or s (a + 1) 0) (get_or s (a + 2) 0) (get_or s (a + 3) 0)
      ∙ rw (
        cut_step s a (a + 4) (omega arith) l,
        cut_step s (a + 1) (a + 4) (omega arith) l,
        e,
        cut_step s (a + 2) (a + 4) (omega arith) l,
        f,
        cut_step s (a + 3) (a + 4) (omega arith) l,
        g,
        cut_done s (a + 4) (a + 4) (omega arith) (omega arith),
      )
