-- A reference's text in 16 bytes, tested by how many bytes of a text there are at first.
use Rattle.std.specs.Prelude.{◌≡◌, refl, Bool, true, false, ◌&&◌, not, cond, List, [], ◌∷◌, ℕ, zero, suc, ◌+◌, ◌-◌, ◌≤◌, ◌<◌, leb, eqb, get_or, take, drop}
use Rattle.std.proofs.Common.{sym, ap, ◌∙◌}
use Rattle.std.proofs.Math.Bool.{and-true, and-false}
use native.Mathlib.Omega.{arith}
use Rattle.std.proofs.Math.ListN.{length}
use borrow.Author.Tests.{le-leb}
use Rattle.rules.specs.Text.{is_text, every, run}
use Rattle.rules.specs.Engine.{slashed}
use Rattle.rules.specs.Area.{until_zero}
use Rattle.laws.specs.Parts.{cut, cut_length, cut_get, cut_take, cut_drop, cut_cut}
use Rattle.laws.specs.Tests.{never, cond_left, cond_right}
use Rattle.laws.specs.Places.{Passed}
use Rattle.engine_laws.specs.Tests.{is_zero, text_fits}
use Rattle.engine_laws.specs.Layout.{text_byte}

-- the n bytes at a, a text's, are a reference that 5 lets pass, and zeros stand behind them up to 16
unfoldable pub ended_fits : List ℕ → ℕ → ℕ → Bool
ended_fits s a n = leb 1 n && (not (slashed (cut s a (a + n))) && every is_zero (cut s (a + n) (a + n + (16 - n))))

-- the text before the first zero is the n bytes: where zeros stand behind them
until_zeros : (cs : List ℕ) (n : ℕ) → every is_text (take n cs) ≡ true → every is_zero (drop n cs) ≡ true → until_zero cs ≡ take n cs
unfolding until_zero every is_zero
until_zeros [] zero h z = refl
until_zeros [] (suc n) h z = refl
until_zeros (c ∷ cs) zero h z = rw (cond_left (eqb c 0) (every is_zero cs) z)
until_zeros (c ∷ cs) (suc n) h z =
    rw (text_byte c (cond_left (is_text c) (every is_text (take n cs)) h)) (ap (λ (l : List ℕ). c ∷ l) (until_zeros cs n (cond_right (is_text c) (every is_text (take n cs)) h) z))

-- and where it is a text's, the byte behind the n being none
until_texts : (cs : List ℕ) (n : ℕ) → n ≤ length cs → every is_text (take n cs) ≡ true → (n < length cs → is_text (get_or cs n 0) ≡ false) → every is_text (until_zero cs) ≡ true → until_zero cs ≡ take n cs
unfolding until_zero every
until_texts [] zero l h b t = refl
until_texts [] (suc n) l h b t = refl
until_texts (c ∷ cs) zero l h b t = go (eqb c 0) t
  where
    go : (z : Bool) → every is_text (cond z [] (c ∷ until_zero cs)) ≡ true → cond z [] (c ∷ until_zero cs) ≡ []
    go true t = refl
    go false t = never (sym (b (omega arith)) ∙ cond_left (is_text c) (every is_text (until_zero cs)) t)
until_texts (c ∷ cs) (suc n) l h b t =
    let i : is_text c ≡ true = cond_left (is_text c) (every is_text (take n cs)) h in
    let z : eqb c 0 ≡ false = text_byte c i in
    let u : every is_text (c ∷ until_zero cs) ≡ true = rw z at t in
    rw z (ap (λ (l : List ℕ). c ∷ l) (until_texts cs n (omega arith) (cond_right (is_text c) (every is_text (take n cs)) h) (λ (k : n < length cs). b (omega arith)) (cond_right (is_text c) (every is_text (until_zero cs)) u)))

-- the test, by the n bytes
module _ (s : List ℕ) (a n : ℕ) (l : a + 16 ≤ length s) (w : Passed is_text s a 16 n) where
  abbrev cs : List ℕ
  cs = cut s a (a + 16)

  size : length cs ≡ 16
  size = cut_length s a (a + 16) l ∙ omega arith

  front : take n cs ≡ cut s a (a + n)
  front = cut_take s a (a + 16) n (omega (arith, w.within))

  rest : drop n cs ≡ cut s (a + n) (a + n + (16 - n))
  rest = let e : a + n + (16 - n) ≡ a + 16 = omega (arith, w.within) in rw e (cut_drop s a (a + 16) n)

  behind : cut cs n 16 ≡ cut s (a + n) (a + n + (16 - n))
  behind = let e : a + n + (16 - n) ≡ a + 16 = omega (arith, w.within) in rw e (cut_cut s a (a + 16) n 16 (omega arith))

  -- the text before the first zero is the n bytes
  by_text : until_zero cs ≡ take n cs → ended_fits s a n ≡ text_fits cs
  unfolding ended_fits text_fits run
  by_text e =
      let m : length (cut s a (a + n)) ≡ n = cut_length s a (a + n) (omega (arith, w.within)) ∙ omega arith in
      rw (e, front, m, behind, w.front, le-leb n 16 w.within, and-true, and-true)

  -- it is no text's, and no zeros stand behind the n bytes
  by_none : every is_zero (cut s (a + n) (a + n + (16 - n))) ≡ false → every is_text (until_zero cs) ≡ false → ended_fits s a n ≡ text_fits cs
  unfolding ended_fits text_fits run
  by_none f g = rw (f, g, and-false, and-false, and-false)

  pub ended_text : (r : Bool) → r ≡ ended_fits s a n → r ≡ text_fits cs
  ended_text r e = e ∙ go (every is_zero (cut s (a + n) (a + n + (16 - n)))) refl (every is_text (until_zero cs)) refl
    where
      go : (z : Bool) → every is_zero (cut s (a + n) (a + n + (16 - n))) ≡ z → (t : Bool) → every is_text (until_zero cs) ≡ t → ended_fits s a n ≡ text_fits cs
      go true f t g = by_text (until_zeros cs n (rw front w.front) (rw rest f))
      go false f true g =
          by_text (until_texts cs n (rw size w.within) (rw front w.front) (λ (k : n < length cs). ap is_text (cut_get s a (a + 16) n (omega (arith, size))) ∙ w.next (omega (arith, size))) g)
      go false f false g = by_none f g
