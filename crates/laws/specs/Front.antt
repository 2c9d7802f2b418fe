-- The words of std for a test of each byte, in those of the definitions: all bytes, and how many at the front.
use Rattle.std.specs.Prelude.{◌≡◌, refl, Bool, true, false, cond, ◌&&◌, List, [], ◌∷◌, ℕ, ◌+◌, ◌-◌, ◌≤◌, ◌<◌, eqb, length, take, drop}
use Rattle.std.specs.List.{list_all, prefix_len}
use Rattle.std.proofs.Common.{◌∙◌, zero-add, one-add, ne_eqb, arith}
use Rattle.std.proofs.Math.Dec.{eqb-suc-suc}
use Rattle.std.proofs.lemmas.List.Sums.{prefix_len_stops}
use Rattle.rules.specs.Text.{every}
use Rattle.laws.specs.Parts.{cut, cut_all, cut_length, cut_take, cut_get}
use Rattle.laws.specs.Places.{Passed}
use Rattle.laws.specs.Slices.{part_cut}

module _ (p : ℕ → Bool) where
  -- all bytes pass
  pub all_every : (s : List ℕ) → list_all p s ≡ every p s
  unfolding every
  all_every [] = refl
  all_every (c ∷ s) = rw (all_every s) (go (p c))
    where
      go : (q : Bool) → (q && every p s) ≡ cond q (every p s) false
      go true = refl
      go false = refl

  -- so many at the front pass
  front_within : (s : List ℕ) → prefix_len p s ≤ length s
  front_within [] = omega arith
  front_within (c ∷ s) = go (front_within s) (p c)
    where
      go : prefix_len p s ≤ length s → (q : Bool) → cond q (1 + prefix_len p s) 0 ≤ length (c ∷ s)
      go h true = omega arith
      go h false = omega arith

  front_every : (s : List ℕ) → every p (take (prefix_len p s) s) ≡ true
  unfolding every
  front_every [] = refl
  front_every (c ∷ s) = go (front_every s) (p c) refl
    where
      go : every p (take (prefix_len p s) s) ≡ true → (q : Bool) → q ≡ p c → every p (take (cond q (1 + prefix_len p s) 0) (c ∷ s)) ≡ true
      go h true e = rw (one-add, ← e) h
      go h false e = refl

  front_whole : (s : List ℕ) → eqb (prefix_len p s) (length s) ≡ every p s
  unfolding every
  front_whole [] = refl
  front_whole (c ∷ s) = go (front_whole s) (p c)
    where
      go : eqb (prefix_len p s) (length s) ≡ every p s → (q : Bool) → eqb (cond q (1 + prefix_len p s) 0) (length (c ∷ s)) ≡ cond q (every p s) false
      go h true = rw (one-add, eqb-suc-suc) h
      go h false = ne_eqb 0 (length (c ∷ s)) (λ (q : 0 ≡ length (c ∷ s)). omega arith)

  -- of a part
  module _ (s : List ℕ) (a n : ℕ) (h : a + n ≤ length s) where
    size : length (cut s a (a + n)) ≡ n
    size = cut_length s a (a + n) h ∙ omega arith

    pub front_passed : Passed p s a n (prefix_len p (cut s a (a + n)))
    front_passed =
        let l : prefix_len p (cut s a (a + n)) ≤ n = rw size at (front_within (cut s a (a + n))) in record {
          whole = rw size at (front_whole (cut s a (a + n)));
          within = l;
          front = rw (cut_take s a (a + n) (prefix_len p (cut s a (a + n))) (omega arith)) at (front_every (cut s a (a + n)));
          next = λ (k : prefix_len p (cut s a (a + n)) < n). rw (cut_get s a (a + n) (prefix_len p (cut s a (a + n))) (omega arith)) at (prefix_len_stops p (cut s a (a + n)) 0 (rw size k));
        }

-- counted in the slice of a part
pub front_passed_at : (p : ℕ → Bool) (s : List ℕ) (a n r : ℕ) → a + n ≤ length s → r ≡ prefix_len p (take (a + n - a) (drop a s)) → Passed p s a n r
front_passed_at p s a n r h e = let q : r ≡ prefix_len p (cut s a (a + n)) = rw (part_cut s a (a + n) (omega arith)) at e in rw q (front_passed p s a n h)

-- of the whole
pub front_passed_all : (p : ℕ → Bool) (s : List ℕ) (r : ℕ) → r ≡ prefix_len p s → Passed p s 0 (length s) r
front_passed_all p s r e = rw e (rw (zero-add, cut_all s) at (front_passed p s 0 (length s) (omega arith)))
