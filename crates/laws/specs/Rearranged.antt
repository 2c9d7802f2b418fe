-- Lists that are rearrangements of each other: whatever is taken through them ends alike, where two steps may be exchanged.
use Rattle.std.specs.Prelude.{◌≡◌, Bool, ℕ, ◌+◌, ◌≤◌}
use Rattle.std.proofs.Math.Path.{refl, sym, ap}
use Rattle.std.proofs.Common.{◌∙◌}
use Rattle.std.proofs.Math.Bool.{true, false, cond}
use mathlib.Core.List.{List, [], ◌∷◌, ◌++◌}
use native.Mathlib.Omega.{arith}
use Rattle.rules.specs.Text.{times, Rearranged}

-- a value taken through a list, from the first element on
unfoldable pub through : {A S : Type 0} → (A → S → S) → S → List A → S
through f s [] = s
through f s (x ∷ xs) = through f (f x s) xs

-- in two lists an element stands as often as in each
pub times_join : {A : Type 0} (same : A → A → Bool) (x : A) (ys zs : List A) → times same x (ys ++ zs) ≡ times same x ys + times same x zs
unfolding times
times_join same x [] zs = omega arith
times_join same x (y ∷ ys) zs = rw (times_join same x ys zs) (go (same y x) (times same x ys))
  where
    go : (t : Bool) (n : ℕ) → cond t (1 + (n + times same x zs)) (n + times same x zs) ≡ cond t (1 + n) n + times same x zs
    go true n = omega arith
    go false n = refl

-- by a test that tells what is the same
module _ {A : Type 0} (same : A → A → Bool) (is : (x y : A) → same x y ≡ true → x ≡ y) (self : (x : A) → same x x ≡ true) where
  -- a list without the first x
  unfoldable without : A → List A → List A
  without x [] = []
  without x (y ∷ ys) = let r = without x ys in cond (same y x) ys (y ∷ r)

  -- one more by each of two tests, in either order
  exchange : (t u : Bool) (n : ℕ) → cond t (1 + cond u (1 + n) n) (cond u (1 + n) n) ≡ cond u (1 + cond t (1 + n) n) (cond t (1 + n) n)
  exchange true true n = refl
  exchange true false n = refl
  exchange false u n = refl

  -- an element of a list may stand first
  times_first : (x : A) (ys : List A) → 1 ≤ times same x ys → Rearranged same ys (x ∷ without x ys)
  unfolding times without
  times_first x [] h z = absurd (omega arith)
  times_first x (y ∷ ys) h z = go (same y x) refl (λ k. times_first x ys k z) h
    where
      go : (t : Bool) → same y x ≡ t → (1 ≤ times same x ys → times same z ys ≡ times same z (x ∷ without x ys)) → 1 ≤ cond t (1 + times same x ys) (times same x ys)
          → times same z (y ∷ ys) ≡ times same z (x ∷ cond t ys (y ∷ without x ys))
      go true e f k = rw (is y x e)
      go false e f k = rw (f k) (exchange (same y z) (same x z) (times same z (without x ys)))

  -- what stands behind the same first element
  rearranged_rest : (x : A) (xs ys : List A) → Rearranged same (x ∷ xs) (x ∷ ys) → Rearranged same xs ys
  unfolding times
  rearranged_rest x xs ys r z = go (same x z) (times same z xs) (times same z ys) (r z)
    where
      go : (t : Bool) (n m : ℕ) → cond t (1 + n) n ≡ cond t (1 + m) m → n ≡ m
      go true n m e = omega arith
      go false n m e = e

  module _ {S : Type 0} (f : A → S → S) (swap : (x y : A) (s : S) → f x (f y s) ≡ f y (f x s)) where
    -- the step of an element of a list may be the first
    through_first : (x : A) (ys : List A) → 1 ≤ times same x ys → (s : S) → through f s ys ≡ through f s (x ∷ without x ys)
    unfolding through times without
    through_first x [] h s = absurd (omega arith)
    through_first x (y ∷ ys) h s = go (same y x) refl (λ k. through_first x ys k (f y s)) h
      where
        go : (t : Bool) → same y x ≡ t → (1 ≤ times same x ys → through f (f y s) ys ≡ through f (f y s) (x ∷ without x ys)) → 1 ≤ cond t (1 + times same x ys) (times same x ys)
            → through f (f y s) ys ≡ through f (f x s) (cond t ys (y ∷ without x ys))
        go true e i k = rw (is y x e)
        go false e i k = i k ∙ ap (λ (z : S). through f z (without x ys)) (swap x y s)

    pub rearranged_through : (xs ys : List A) → Rearranged same xs ys → (s : S) → through f s xs ≡ through f s ys
    unfolding through times
    rearranged_through [] [] r s = refl
    rearranged_through [] (y ∷ ys) r s = let n : 0 ≡ 1 + times same y ys = rw (self y) at (r y) in absurd (omega arith)
    rearranged_through (x ∷ xs) ys r s =
        let h : 1 ≤ times same x ys = rw (← r x, self x) (omega arith) in
        let rest : Rearranged same xs (without x ys) = rearranged_rest x xs (without x ys) (λ z. r z ∙ times_first x ys h z) in
        rearranged_through xs (without x ys) rest (f x s) ∙ sym (through_first x ys h s)
