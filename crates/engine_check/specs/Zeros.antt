-- Bytes that are all zero, as a slice has them and as a part of the area.
use Rattle.std.specs.Prelude.{◌≡◌, refl, Bool, true, false, ◌&&◌, cond, List, ℕ, ◌-◌, ◌≤◌, ◌↔◌, eqb, IsTrue, All, take, drop, length, get_or, zero, suc, ◌+◌, ◌*◌, ◌/◌, ◌<◌}
use Rattle.std.specs.Int.Bits.{bit_or}
use Rattle.std.proofs.Common.{sym, ap, ◌∙◌, arith, take-append-drop, drop-drop}
use Rattle.std.proofs.lemmas.Bool.Decides.{same_from_decides, Decides-by_and, Decides-eqb}
use Rattle.rules.specs.Text.{every}
use Rattle.laws.specs.Parts.{cut, cut_all}
use Rattle.std.specs.Simd.{first_chunks}
use Rattle.laws.specs.Every.{every_append}
use Rattle.laws.specs.Ors.{four_ors}
use Rattle.laws.specs.Eights.{eight_ors}
use Rattle.engine_laws.specs.Tests.{is_zero}
use Rattle.laws.specs.Slices.{part_cut}

cond_and : (t x : Bool) → cond t x false ≡ t && x
cond_and true x = refl
cond_and false x = refl

pub zeros_told : (s : List ℕ) (r : Bool) → IsTrue r ↔ All (λ c. c ≡ 0) s → r ≡ every is_zero s
unfolding every is_zero
zeros_told s r e = same_from_decides r _ e (Decides-by_and is_zero (λ c. c ≡ 0) (every is_zero) (λ c. Decides-eqb c 0) refl (λ c cs. cond_and (eqb c 0) (every is_zero cs)) s)

-- a slice is the part from its first index up to its last
pub zeros_part : (s : List ℕ) (a b : ℕ) → a ≤ b → {r : Bool} → r ≡ every is_zero (take (b - a) (drop a s)) → r ≡ every is_zero (cut s a b)
zeros_part s a b h e = rw (part_cut s a b h) at e

-- eight bytes told by their or
pub eight_ored : (s : List ℕ) → length s ≡ 8
    → eqb
    (bit_or (bit_or (bit_or (bit_or (get_or s 0 0) (get_or s 1 0)) (get_or s 2 0)) (get_or s 3 0)) (bit_or (bit_or (bit_or (get_or s 4 0) (get_or s 5 0)) (get_or s 6 0)) (get_or s 7 0)))
    0 ≡ every is_zero s
unfolding is_zero
eight_ored s l =
    eight_ors is_zero s 0 _ _ (four_ors is_zero (λ x. refl) s 0 (omega arith)) (four_ors is_zero (λ x. refl) s 4 (omega arith))
    ∙ ap (every is_zero) (ap (cut s 0) (sym l) ∙ cut_all s)

-- ---- eight by eight

chunk_at : (n k : ℕ) (s : List ℕ) (other : List ℕ) → k < n → get_or (first_chunks 8 n s) k other ≡ take 8 (drop (8 * k) s)
chunk_at zero k s other h = absurd (omega arith)
chunk_at (suc n) zero s other h = refl
chunk_at (suc n) (suc k) s other h = let e : 8 + 8 * k ≡ 8 * suc k = omega arith in chunk_at n k (drop 8 s) other (omega arith) ∙ ap (take 8) (drop-drop _ _ s ∙ ap (λ (i : ℕ). drop i s) e)

module _ (s : List ℕ) (k : ℕ) (inv : every is_zero (drop (8 * k) s) ≡ every is_zero s) where
  module _ (chunks : List (List ℕ)) (front : chunks ≡ first_chunks 8 (length s / 8) s) (size : length chunks ≡ length s / 8) (h : k < length chunks) (other : List ℕ) (t : Bool) (u : t ≡ every is_zero (get_or chunks k other)) where
    both : cond t (every is_zero (drop (8 * (k + 1)) s)) false ≡ every is_zero s
    both =
        let e : 8 * k + 8 ≡ 8 * (k + 1) = omega arith in
        rw (u, ap (λ (cs : List (List ℕ)). get_or cs k other) front, chunk_at (length s / 8) k s other (omega (arith, size)), ← e, ← drop-drop 8 (8 * k) s, ← every_append is_zero, take-append-drop) inv

    pub eight_more : t ≡ true → every is_zero (drop (8 * (k + 1)) s) ≡ every is_zero s
    eight_more d = rw d at both

    pub eight_failed : t ≡ false → false ≡ every is_zero s
    eight_failed d = rw d at both

  -- behind all of them
  pub eights_rest : (n : ℕ) → n ≡ length s / 8 → k ≤ n → n ≤ k → (rest : List ℕ) → rest ≡ drop (length s / 8 * 8) s → (r : Bool) → r ≡ every is_zero rest → r ≡ every is_zero s
  eights_rest n e h l rest b r u =
      let f : length s / 8 * 8 ≡ 8 * k = omega arith in
      u ∙ ap (every is_zero) (b ∙ ap (λ (i : ℕ). drop i s) f) ∙ inv

pub eights_start : (s : List ℕ) → every is_zero (drop (8 * 0) s) ≡ every is_zero s
eights_start s = refl
