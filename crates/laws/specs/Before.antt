-- Two parts compared with each other in byte order, byte by byte: what is left of both decides. A law for each way on and out of the loop.
use Rattle.std.specs.Prelude.{◌≡◌, refl, Bool, true, false, List, [], ◌∷◌, ℕ, ◌+◌, ◌≤◌, ◌<◌, length}
use Rattle.std.proofs.Common.{sym, ◌∙◌, add-zero}
use native.Mathlib.Omega.{arith}
use Rattle.std.proofs.Math.ListN.{get_or}
use borrow.Author.Tests.{le-leb, lt-leb, eq-eqb, ne_eqb}
use Rattle.rules.specs.Text.{text_before}
use Rattle.laws.specs.Parts.{cut, cut_step, cut_done}

pub before_start : (s t : List ℕ) (a m b n : ℕ) → text_before (cut s (a + 0) (a + m)) (cut t (b + 0) (b + n)) ≡ text_before (cut s a (a + m)) (cut t b (b + n))
before_start s t a m b n = rw (add-zero a, add-zero b)

none_before : (cs : List ℕ) → text_before cs [] ≡ false
unfolding text_before
none_before [] = refl
none_before (c ∷ cs) = refl

module _ (s t : List ℕ) (a m b n k : ℕ) (x : Bool) (inv : text_before (cut s (a + k) (a + m)) (cut t (b + k) (b + n)) ≡ x) where
  -- the second ends
  pub before_end_lem : k ≤ n → n ≤ k → false ≡ x
  before_end_lem h l = sym (none_before (cut s (a + k) (a + m))) ∙ (rw (cut_done t (b + k) (b + n) (omega arith) (omega arith)) at inv)

  module _ (h : k < n) (r : b + n ≤ length t) where
    -- the first ends
    pub before_short : k ≡ m → true ≡ x
    unfolding text_before
    before_short e = rw (cut_done s (a + k) (a + m) (omega arith) (omega arith), cut_step t (b + k) (b + n) (omega arith) r) at inv

    module _ (l : k ≤ m) (z : k ≡ m → ⊥) (q : a + m ≤ length s) where
      pub before_low : get_or s (a + k) 0 < get_or t (b + k) 0 → true ≡ x
      unfolding text_before
      before_low c =
          rw (cut_step s (a + k) (a + m) (omega arith) q, cut_step t (b + k) (b + n) (omega arith) r, ne_eqb (get_or s (a + k) 0) (get_or t (b + k) 0) (λ (e : get_or s (a + k) 0 ≡ get_or t (b + k) 0). omega arith), lt-leb (get_or t (b + k) 0) (get_or s (a + k) 0) c) at inv

      module _ (c : get_or t (b + k) 0 ≤ get_or s (a + k) 0) where
        pub before_high : get_or t (b + k) 0 < get_or s (a + k) 0 → false ≡ x
        unfolding text_before
        before_high d =
            rw (cut_step s (a + k) (a + m) (omega arith) q, cut_step t (b + k) (b + n) (omega arith) r, ne_eqb (get_or s (a + k) 0) (get_or t (b + k) 0) (λ (e : get_or s (a + k) 0 ≡ get_or t (b + k) 0). omega arith), le-leb (get_or t (b + k) 0) (get_or s (a + k) 0) c) at inv

        pub before_more : get_or s (a + k) 0 ≤ get_or t (b + k) 0 → text_before (cut s (a + (k + 1)) (a + m)) (cut t (b + (k + 1)) (b + n)) ≡ x
        unfolding text_before
        before_more d =
            let e : a + k + 1 ≡ a + (k + 1) = omega arith in
            let f : b + k + 1 ≡ b + (k + 1) = omega arith in
            rw (cut_step s (a + k) (a + m) (omega arith) q, cut_step t (b + k) (b + n) (omega arith) r, eq-eqb (get_or s (a + k) 0) (get_or t (b + k) 0) (omega arith), e, f) at inv

pub ruleset ordering = (before_start, before_end_lem, before_short, before_low, before_high, before_more)
