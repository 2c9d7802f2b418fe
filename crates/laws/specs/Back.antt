-- Two parts of n bytes compared with each other from their last bytes on: behind k they are equal.
use Rattle.std.specs.Prelude.{◌≡◌, Bool, true, false, List, ℕ, ◌+◌, ◌-◌, ◌≤◌, ◌<◌, eqb, length, get_or}
use Rattle.std.proofs.Common.{sym, ap, ◌∙◌, add-zero, eq-eqb, ne_eqb}
use native.Mathlib.Omega.{arith}
use Rattle.rules.specs.Text.{equal}
use Rattle.laws.specs.Parts.{cut, cut_step, cut_done, cut_get}
use Rattle.laws.specs.Tests.{not_holds, never}
use Rattle.laws.specs.Equal.{equal_true}

pub back_start : (s t : List ℕ) (a b n : ℕ) → equal (cut s (a + n) (a + n)) (cut t (b + n) (b + n)) ≡ true
unfolding equal
back_start s t a b n = rw (cut_done s (a + n) (a + n) (omega arith) (omega arith), cut_done t (b + n) (b + n) (omega arith) (omega arith))

module _ (s t : List ℕ) (a b n k : ℕ) (h : 0 < k) (h' : k ≤ n) (l : a + n ≤ length s) (m : b + n ≤ length t) (q : Bool) (u : q ≡ eqb (get_or s (a + k - 1) 0) (get_or t (b + k - 1) 0)) where
  -- the byte before k is the same
  pub back_more : equal (cut s (a + k) (a + n)) (cut t (b + k) (b + n)) ≡ true → q ≡ true → equal (cut s (a + (k - 1)) (a + n)) (cut t (b + (k - 1)) (b + n)) ≡ true
  unfolding equal
  back_more inv d =
      let e : a + (k - 1) ≡ a + k - 1 = omega arith in
      let f : b + (k - 1) ≡ b + k - 1 = omega arith in
      let e' : a + k - 1 + 1 ≡ a + k = omega arith in
      let f' : b + k - 1 + 1 ≡ b + k = omega arith in
      rw (e, f, cut_step s (a + k - 1) (a + n) (omega arith) l, cut_step t (b + k - 1) (b + n) (omega arith) m, e', f', ← u, d) inv

  -- it is another
  pub back_stop : q ≡ false → eqb k 0 ≡ equal (cut s a (a + n)) (cut t b (b + n))
  back_stop d =
      let e : a + (k - 1) ≡ a + k - 1 = omega arith in
      let f : b + (k - 1) ≡ b + k - 1 = omega arith in
      ne_eqb k 0 (λ (z : k ≡ 0). omega arith)
      ∙ not_holds _ (λ w.
      let g : get_or s (a + k - 1) 0 ≡ get_or t (b + k - 1) 0 =
      sym (rw e at (cut_get s a (a + n) (k - 1) (omega arith))) ∙ ap (λ (x : List ℕ). get_or x (k - 1) 0) (equal_true _ _ w) ∙ (rw f at (cut_get t b (b + n) (k - 1) (omega arith))) in
      never (sym d ∙ u ∙ eq-eqb _ _ g))

-- no byte is left
pub back_end : (s t : List ℕ) (a b n k : ℕ) → equal (cut s (a + k) (a + n)) (cut t (b + k) (b + n)) ≡ true → k ≤ 0 → eqb k 0 ≡ equal (cut s a (a + n)) (cut t b (b + n))
back_end s t a b n k inv h =
    let z : k ≡ 0 = omega arith in
    eq-eqb k 0 z ∙ sym (rw (z, add-zero a, add-zero b) at inv)

pub ruleset backing = (back_start, back_more, back_stop, back_end)
