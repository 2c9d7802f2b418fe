-- Bytes that all pass a test, gone through eight at a time and the rest by itself: a law for each way on and out.
use Rattle.std.specs.Prelude.{◌≡◌, Bool, true, false, cond, List, ℕ, ◌+◌, ◌-◌, ◌*◌, ◌/◌, ◌≤◌, ◌<◌, eqb, take, drop}
use Rattle.std.proofs.Common.{sym, ap, ◌∙◌, arith, take-append-drop, eq-eqb, ne_eqb}
use Rattle.std.specs.Int.Bits.{bit_or}
use Rattle.rules.specs.Text.{every}
use Rattle.laws.specs.Parts.{cut, cut_take, cut_drop, cut_done}
use Rattle.laws.specs.Ors.{or_zero}
use Rattle.laws.specs.Every.{every_append}
use Rattle.laws.specs.Places.{place_before, place_end}

module _ (p : ℕ → Bool) where
  -- two parts, one behind the other
  pub every_two : (s : List ℕ) (a b c : ℕ) → a ≤ b → b ≤ c → every p (cut s a c) ≡ cond (every p (cut s a b)) (every p (cut s b c)) false
  every_two s a b c h k =
      let e : a + (b - a) ≡ b = omega arith in
      ap (every p) (sym (take-append-drop (b - a) (cut s a c)))
      ∙ every_append p (take (b - a) (cut s a c)) (drop (b - a) (cut s a c))
      ∙ rw (cut_take s a c (b - a) (omega arith), cut_drop s a c (b - a), e)

  -- two fours told by their ors
  pub eight_ors : (s : List ℕ) (a v w : ℕ) → eqb v 0 ≡ every p (cut s a (a + 4)) → eqb w 0 ≡ every p (cut s (a + 4) (a + 4 + 4)) → eqb (bit_or v w) 0 ≡ every p (cut s a (a + 8))
  eight_ors s a v w h k =
      let e : a + 4 + 4 ≡ a + 8 = omega arith in
      or_zero v w ∙ rw (h, k, e) (sym (every_two s a (a + 4) (a + 8) (omega arith) (omega arith)))

  -- the loop over n eights: what is left behind k of them decides
  module _ (s : List ℕ) (a k n : ℕ) (x : Bool) (inv : every p (cut s (a + 8 * k) (a + 8 * n)) ≡ x) where
    module _ (h : k < n) (t : Bool) (u : t ≡ every p (cut s (a + 8 * k) (a + 8 * k + 8))) where
      both : cond t (every p (cut s (a + 8 * (k + 1)) (a + 8 * n))) false ≡ x
      both =
          let e : a + 8 * (k + 1) ≡ a + 8 * k + 8 = omega arith in
          rw (e, u, ← every_two s (a + 8 * k) (a + 8 * k + 8) (a + 8 * n) (omega arith) (omega arith)) inv

      pub eights_more : t ≡ true → every p (cut s (a + 8 * (k + 1)) (a + 8 * n)) ≡ x
      eights_more d = rw d at both

      pub eights_before : t ≡ false → eqb k n ≡ x
      eights_before d = place_before k n x h (rw d at both)

    pub eights_end : k ≤ n → n ≤ k → eqb k n ≡ x
    unfolding every
    eights_end i j = place_end k n x i j (rw (cut_done s (a + 8 * k) (a + 8 * n) (omega arith) (omega arith)) at inv)

  -- the eights of a part, r of which passed, and the rest
  module _ (s : List ℕ) (a b r : ℕ) (l : a ≤ b) (u : eqb r ((b - a) / 8) ≡ every p (cut s a (a + 8 * ((b - a) / 8)))) where
    split : every p (cut s a b) ≡ cond (eqb r ((b - a) / 8)) (every p (cut s (a + 8 * ((b - a) / 8)) b)) false
    split = every_two s a (a + 8 * ((b - a) / 8)) b (omega arith) (omega arith) ∙ rw (← u)

    pub eights_failed : (r ≡ (b - a) / 8 → ⊥) → false ≡ every p (cut s a b)
    eights_failed d = sym (split ∙ rw (ne_eqb r ((b - a) / 8) d))

    pub eights_passed : r ≡ (b - a) / 8 → (t : Bool) → t ≡ every p (cut s (a + 8 * ((b - a) / 8)) (a + 8 * ((b - a) / 8) + (b - a - 8 * ((b - a) / 8)))) → t ≡ every p (cut s a b)
    eights_passed d t v =
        let e : a + 8 * ((b - a) / 8) + (b - a - 8 * ((b - a) / 8)) ≡ b = omega arith in
        v ∙ rw e (sym (split ∙ rw (eq-eqb r ((b - a) / 8) d)))

pub ruleset eights = (eights_more, eights_before, eights_end, eights_failed, eights_passed)
