-- Two texts of one length compared from the last byte on: from k on they are equal.
use Rattle.std.specs.Prelude.{◌≡◌, true, false, List, ℕ, ◌+◌, ◌-◌, ◌≤◌, ◌<◌, length, get_or}
use Rattle.std.proofs.Common.{sym, ap, eq-eqb}
use native.Mathlib.Omega.{arith}
use Rattle.rules.specs.Text.{equal}
use Rattle.laws.specs.Parts.{from, from_step, from_done, from_all}
use Rattle.laws.specs.Tests.{not_holds}
use Rattle.laws.specs.Equal.{equal_true}

module _ (s t : List ℕ) where
  pub backward_start : length s ≡ length t → equal (from s (length s)) (from t (length s)) ≡ true
  unfolding equal
  backward_start h = rw (from_done s (length s) (omega arith), from_done t (length s) (omega arith))

  module _ (k : ℕ) (h : 0 < k) where
    -- the byte before k is the same
    pub backward_more : k ≤ length s → length s ≡ length t → equal (from s k) (from t k) ≡ true → get_or s (k - 1) 0 ≡ get_or t (k - 1) 0 → equal (from s (k - 1)) (from t (k - 1)) ≡ true
    unfolding equal
    backward_more l m inv e =
        let f : k - 1 + 1 ≡ k = omega arith in rw (from_step s (k - 1) (omega arith), from_step t (k - 1) (omega arith), f, eq-eqb _ _ e) inv

    -- it is another
    pub backward_other : (get_or s (k - 1) 0 ≡ get_or t (k - 1) 0 → ⊥) → false ≡ equal s t
    backward_other f = not_holds _ (λ w. f (ap (λ (x : List ℕ). get_or x (k - 1) 0) (equal_true _ _ w)))

  -- no byte is left
  pub backward_end : (k : ℕ) → k ≤ 0 → equal (from s k) (from t k) ≡ true → true ≡ equal s t
  backward_end k h inv = let z : k ≡ 0 = omega arith in sym (rw (z, from_all s, from_all t) at inv)

pub ruleset backward = (backward_start, backward_more, backward_other, backward_end)
