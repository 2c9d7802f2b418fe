-- Slashes in a reference: at its front, one behind the other, and at its end.
use Rattle.std.specs.Prelude.{◌≡◌, refl, [], true, false, ◌&&◌, cond, List, ℕ, suc, ◌+◌, ◌-◌, ◌≤◌, ◌<◌, eqb, length, get_or, drop, Bool, ◌||◌, ◌∷◌, leb}
use Rattle.std.specs.List.{list_any, zip}
use native.Mathlib.Omega.{arith}
use Rattle.std.proofs.Common.{ap, ◌∙◌, add-one, drop-cons, length-drop, sym, add-zero}
use borrow.Author.Tests.{eq-eqb, ne_eqb, le-leb, lt-leb}
use Rattle.rules.specs.Engine.{slashes_from, slashed}
use Rattle.laws.specs.Parts.{cut, cut_step, cut_done, cut_get}
use Rattle.laws.specs.Tests.{or_holds}

-- two bytes, the first of them that one or not
pub both_are : (c d k : ℕ) → c ≡ k → eqb d k ≡ (eqb c k && eqb d k)
both_are c d k h = rw (eq-eqb c k h)

pub first_not : (c d k : ℕ) → (c ≡ k → ⊥) → eqb c k ≡ (eqb c k && eqb d k)
first_not c d k h = rw (ne_eqb c k h)

module _ (s : List ℕ) (i b : ℕ) (x : Bool) (inv : slashes_from (cut s i b) ≡ x) (k : b ≤ length s) where
  slashes_end : i < b → b ≤ i + 1 → eqb (get_or s i 0) 47 ≡ x
  unfolding slashes_from
  slashes_end h l = rw (cut_step s i b h k, cut_done s (i + 1) b (omega arith) l) at inv

  module _ (h : i + 1 < b) (t : Bool) (u : t ≡ (eqb (get_or s i 0) 47 && eqb (get_or s (i + 1) 0) 47)) where
    two : cond t true (slashes_from (cut s (i + 1) b)) ≡ x
    unfolding slashes_from
    two = rw u (rw (cut_step s (i + 1) b h k) (rw (cut_step s i b (omega arith) k, cut_step s (i + 1) b h k) at inv))

    slashes_two : t ≡ true → true ≡ x
    slashes_two d = rw d at two

    slashes_on : t ≡ false → slashes_from (cut s (i + 1) b) ≡ x
    slashes_on d = rw d at two

pub record Doubling (s : List ℕ) (a n k : ℕ) : Type 0 where
  pub some : 1 ≤ k
  pub within : k ≤ n
  pub left : slashes_from (cut s (a + k - 1) (a + n)) ≡ slashes_from (cut s a (a + n))

-- r is where the second of two slashes stands, or n; the last byte decides then
pub record Doubled (s : List ℕ) (a n r : ℕ) : Type 0 where
  pub whole : slashes_from (cut s a (a + n)) ≡ cond (leb n r) (eqb (get_or s (a + n - 1) 0) 47) true

pub doubling_start : (s : List ℕ) (a n : ℕ) → 1 ≤ n → Doubling s a n 1
doubling_start s a n h = let e : a + 1 - 1 ≡ a = omega arith in record { some = omega arith; within = h; left = rw e }

module _ {s : List ℕ} {a n k : ℕ} (w : Doubling s a n k) (l : a + n ≤ length s) where
  module _ (h : k < n) (t : Bool) (u : t ≡ (eqb (get_or s (a + k - 1) 0) 47 && eqb (get_or s (a + k) 0) 47)) where
    next : a + k - 1 + 1 ≡ a + k
    next = omega (arith, w.some)

    pub doubling_more : t ≡ false → Doubling s a n (k + 1)
    doubling_more d =
        let e : a + (k + 1) - 1 ≡ a + k = omega arith in record {
          some = omega arith;
          within = omega arith;
          left = rw e (rw next at (slashes_on s (a + k - 1) (a + n) _ w.left l (omega (arith, w.some)) t (rw next u) d));
        }

    pub doubled_two : t ≡ true → Doubled s a n k
    doubled_two d = record { whole = rw (lt-leb n k h) (sym (slashes_two s (a + k - 1) (a + n) _ w.left l (omega (arith, w.some)) t (rw next u) d)) }

  pub doubled_none : n ≤ k → Doubled s a n n
  doubled_none h =
      let e : k ≡ n = omega (arith, w.within) in
      let f : slashes_from (cut s (a + n - 1) (a + n)) ≡ slashes_from (cut s a (a + n)) = rw e at w.left in
      record { whole = rw (le-leb n n (omega arith)) (sym (slashes_end s (a + n - 1) (a + n) _ f l (omega (arith, w.some)) (omega arith))) }

module _ (s : List ℕ) (a b : ℕ) (o : a ≤ b) (k : b ≤ length s) where
  pub slashed_none : b - a < 1 → false ≡ slashed (cut s a b)
  unfolding slashed slashes_from
  slashed_none h = rw (cut_done s a b o (omega arith))

  module _ (h : 1 ≤ b - a) where
    first : get_or (cut s a b) 0 0 ≡ get_or s a 0
    first = cut_get s a b 0 (omega arith) ∙ ap (λ (i : ℕ). get_or s i 0) (add-zero a)

    pub slashed_first : get_or s a 0 ≡ 47 → true ≡ slashed (cut s a b)
    unfolding slashed
    slashed_first c = rw (first, eq-eqb _ _ c)

    module _ (c : get_or s a 0 ≡ 47 → ⊥) (r : ℕ) (w : Doubled s a (b - a) r) where
      decided : slashed (cut s a b) ≡ cond (leb (b - a) r) (eqb (get_or s (b - 1) 0) 47) true
      unfolding slashed
      decided = let e : a + (b - a) ≡ b = omega arith in rw (first, ne_eqb _ _ c) (rw e at w.whole)

      pub slashed_two : r < b - a → true ≡ slashed (cut s a b)
      slashed_two l = rw (decided, lt-leb (b - a) r l)

      pub slashed_last : b - a ≤ r → eqb (get_or s (b - 1) 0) 47 ≡ slashed (cut s a b)
      slashed_last l = rw (decided, le-leb (b - a) r l)

-- a slash stands behind a slash
unfoldable pub doubled : List ℕ → Bool
doubled cs = list_any (λ (q : ℕ × ℕ). eqb q.0 47 && eqb q.1 47) (zip cs (drop 1 cs))

-- told pair by pair: the pairs from byte k and the one before it on decide
module _ (cs : List ℕ) (k : ℕ) (z : 1 ≤ k) (inv : doubled (drop (k - 1) cs) ≡ doubled cs) where
  module _ (h : k < length cs) where
    pair : drop (k - 1) cs ≡ get_or cs (k - 1) 0 ∷ get_or cs k 0 ∷ drop (k + 1) cs
    pair =
        let e : suc (k - 1) ≡ k = omega arith in
        drop-cons cs (k - 1) 0 (omega arith) ∙ ap (λ (l : List ℕ). get_or cs (k - 1) 0 ∷ l) (rw (e, add-one k) (drop-cons cs k 0 h))

    behind : drop k cs ≡ get_or cs k 0 ∷ drop (k + 1) cs
    behind = rw (add-one k) (drop-cons cs k 0 h)

    module _ (t : Bool) (u : t ≡ (eqb (get_or cs (k - 1) 0) 47 && eqb (get_or cs k 0) 47)) where
      pub double_here : t ≡ true → true ≡ doubled cs
      unfolding doubled
      double_here d = rw (pair, ← u, d) at inv

      pub double_on : t ≡ false → doubled (drop (k + 1 - 1) cs) ≡ doubled cs
      unfolding doubled
      double_on d = let e : k + 1 - 1 ≡ k = omega arith in rw (e, behind) (rw (pair, ← u, d) at inv)

  pub double_none : length cs ≤ k → false ≡ doubled cs
  unfolding doubled
  double_none h = go (drop (k - 1) cs) (omega (arith, length-drop (k - 1) cs)) inv
    where
      go : (l : List ℕ) → length l ≤ 1 → doubled l ≡ doubled cs → false ≡ doubled cs
      go [] e g = g
      go (c ∷ []) e g = g
      go (c ∷ d ∷ l) e g = absurd (omega arith)

-- one does, or the last byte is one
slashes_or_last : (c : ℕ) (cs : List ℕ) → slashes_from (c ∷ cs) ≡ (doubled (c ∷ cs) || eqb (get_or (c ∷ cs) (length cs) 0) 47)
unfolding slashes_from doubled
slashes_or_last c [] = refl
slashes_or_last c (d ∷ cs) = go (eqb c 47 && eqb d 47) (slashes_or_last d cs)
  where
    go : (t : Bool) → slashes_from (d ∷ cs) ≡ (doubled (d ∷ cs) || eqb (get_or (d ∷ cs) (length cs) 0) 47)
        → cond t true (slashes_from (d ∷ cs)) ≡ ((t || doubled (d ∷ cs)) || eqb (get_or (d ∷ cs) (length cs) 0) 47)
    go true e = refl
    go false e = e

pub whole_none : (cs : List ℕ) → length cs < 1 → false ≡ slashed cs
unfolding slashed slashes_from
whole_none [] h = refl
whole_none (c ∷ cs) h = absurd (omega arith)

pub whole_first : (cs : List ℕ) → get_or cs 0 0 ≡ 47 → true ≡ slashed cs
unfolding slashed
whole_first cs h = rw (eq-eqb _ _ h)

module _ (cs : List ℕ) (l : 1 ≤ length cs) (h : get_or cs 0 0 ≡ 47 → ⊥) where
  pub whole_behind : slashed cs ≡ (doubled cs || eqb (get_or cs (length cs - 1) 0) 47)
  unfolding slashed
  whole_behind = rw (ne_eqb _ _ h) (go cs l)
    where
      go : (cs : List ℕ) → 1 ≤ length cs → slashes_from cs ≡ (doubled cs || eqb (get_or cs (length cs - 1) 0) 47)
      go [] h = absurd (omega arith)
      go (c ∷ cs) h = let e : length (c ∷ cs) - 1 ≡ length cs = omega arith in rw e (slashes_or_last c cs)

pub ruleset slashes = (both_are, first_not, double_here, double_on, double_none, whole_none, whole_first, whole_behind, or_holds)
