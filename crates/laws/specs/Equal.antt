-- Texts told equal, and texts that are.
use Rattle.std.specs.Prelude.{◌≡◌, refl, Bool, true, false, cond, List, [], ◌∷◌, ℕ, ◌+◌, ◌-◌, ◌≤◌, ◌<◌, length, eqb}
use Rattle.std.proofs.Common.{sym, ap, ◌∙◌, arith, eqb-true, eq-eqb}
use Rattle.rules.specs.Text.{equal}
use Rattle.laws.specs.Parts.{cut, cut_length, cut_all, from, from_length, from_cut}
use Rattle.laws.specs.Tests.{not_holds, never, cond_both}

-- texts that are told equal are the same
pub equal_true : (cs ds : List ℕ) → equal cs ds ≡ true → cs ≡ ds
unfolding equal
equal_true [] [] h = refl
equal_true [] (d ∷ ds) h = never h
equal_true (c ∷ cs) [] h = never h
equal_true (c ∷ cs) (d ∷ ds) h = go (eqb c d) refl (equal_true cs ds) h
  where
    go : (b : Bool) → eqb c d ≡ b → (equal cs ds ≡ true → cs ≡ ds) → cond b (equal cs ds) false ≡ true → c ∷ cs ≡ d ∷ ds
    go true e f k = let a : c ≡ d = eqb-true c d e in rw (a, f k)
    go false e f k = never k

-- a text is told equal to itself
pub equal_same : (a : List ℕ) → equal a a ≡ true
unfolding equal
equal_same [] = refl
equal_same (c ∷ cs) = cond_both (eqb c c) (equal cs cs) (eq-eqb c c refl) (equal_same cs)

-- a text with bytes is not the empty one
pub equal_none : (cs : List ℕ) → 0 < length cs → equal cs [] ≡ false
unfolding equal
equal_none [] h = absurd (omega arith)
equal_none (c ∷ cs) h = refl

-- two parts: of different lengths, and of one length n
module _ (s t : List ℕ) (a e b f : ℕ) where
  pub parts_differ : (e - a ≡ f - b → ⊥) → e ≤ length s → f ≤ length t → false ≡ equal (cut s a e) (cut t b f)
  parts_differ h k l = not_holds _ (λ q. h (sym (cut_length s a e k) ∙ ap (λ (x : List ℕ). length x) (equal_true _ _ q) ∙ cut_length t b f l))

  pub parts_alike : e - a ≡ f - b → a ≤ e → b ≤ f → (r : Bool) → r ≡ equal (cut s a (a + (e - a))) (cut t b (b + (e - a))) → r ≡ equal (cut s a e) (cut t b f)
  parts_alike h k l r q = let m : a + (e - a) ≡ e = omega arith in let n : b + (e - a) ≡ f = omega arith in q ∙ (rw (m, n))

pub ruleset parting = (parts_differ, parts_alike)

-- what is left of a text from a place on, against another text
module _ (s t : List ℕ) (at : ℕ) where
  pub rest_differs : (length s - at ≡ length t → ⊥) → false ≡ equal (from s at) t
  rest_differs h = not_holds _ (λ q. h (sym (from_length s at) ∙ ap (λ (x : List ℕ). length x) (equal_true (from s at) t q)))

  pub rest_alike : at ≤ length s → length s - at ≡ length t → (r : Bool) → r ≡ equal (cut s at (at + length t)) (cut t 0 (length t)) → r ≡ equal (from s at) t
  rest_alike k h r q = q ∙ (rw (from_cut s at (at + length t) (omega arith), cut_all t))
