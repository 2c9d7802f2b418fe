-- Tables as functions of a place: what an arm of a match is told, and a test that is computed over all places.
use Rattle.std.specs.Prelude.{◌≡◌, refl, Bool, true, false, cond, ℕ, zero, suc, ◌+◌, ◌≤◌, ◌<◌, eqb}
use Rattle.std.proofs.Common.{sym, ap, ◌∙◌, arith, eqb-true}
use Rattle.std.proofs.lemmas.Bool.{eqb-false}
use Rattle.laws.specs.Tests.{cond_left, cond_right}

-- ---- the arms of a match

-- a place is none of the first n
abbrev pub Past : ℕ → ℕ → Type 0
Past k zero = Unit
Past k (suc n) = Past k n × (k ≡ n → ⊥)

past_le : (k n : ℕ) → Past k n → n ≤ k
past_le k zero h = omega arith
past_le k (suc n) h = let l : n ≤ k = past_le k n h.0 in omega (arith, h.1)

module _ {A : Type 0} (f : ℕ → A) {k : ℕ} {v : A} where
  -- the arm of place i
  pub arm_is : (i : ℕ) → k ≡ i → v ≡ f i → v ≡ f k
  arm_is i e h = h ∙ ap f (sym e)

  -- the last arm, of the place n that alone is left
  pub arm_last : (n : ℕ) → k < n + 1 → Past k n → v ≡ f n → v ≡ f k
  arm_last n l p = arm_is n (let m : n ≤ k = past_le k n p in omega arith)

-- ---- a test of all places below n

abbrev pub below : (ℕ → Bool) → ℕ → Bool
below t zero = true
below t (suc n) = let q = below t n in cond (t n) q false

pub below_at : (t : ℕ → Bool) (n : ℕ) → below t n ≡ true → (i : ℕ) → i < n → t i ≡ true
below_at t zero h i l = absurd (omega arith)
below_at t (suc n) h i l = go (eqb i n) refl (below_at t n (cond_right (t n) (below t n) h) i)
  where
    go : (b : Bool) → eqb i n ≡ b → (i < n → t i ≡ true) → t i ≡ true
    go true e f = rw (eqb-true i n e) (cond_left (t n) (below t n) h)
    go false e f = f (omega (arith, eqb-false i n e))
