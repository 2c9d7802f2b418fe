-- A loop that counts how far a part passes a test, up to the first place that fails: the count is the part's length exactly where the whole part passes.
--
use Rattle.std.specs.Prelude.{◌≡◌, Bool, true, false, List, [], ◌∷◌, ℕ, ◌+◌, ◌-◌, ◌<◌, ◌≤◌, eqb, length, get_or}
use Rattle.std.proofs.Common.{sym, ◌∙◌, add-zero, eq-eqb, ne_eqb}
use native.Mathlib.Omega.{arith}
use Rattle.rules.specs.Text.{every, run}
use Rattle.laws.specs.Parts.{cut, cut_done, cut_snoc}
use Rattle.laws.specs.Every.{every_join}
use Rattle.laws.specs.Reading.{every_more, every_bad, every_end, run_short, run_long, run_each, Pairs, pairs_bad, pairs_end}

-- it stopped before the end, where the test fails; it came to the end, where the test holds
pub place_before : (k n : ℕ) (x : Bool) → k < n → false ≡ x → eqb k n ≡ x
place_before k n x h e = ne_eqb k n (λ (q : k ≡ n). omega arith) ∙ e

pub place_end : (k n : ℕ) (x : Bool) → k ≤ n → n ≤ k → true ≡ x → eqb k n ≡ x
place_end k n x h l e = let q : k ≡ n = omega arith in eq-eqb k n q ∙ e

-- ---- each byte passes a test

-- r of the n bytes at a place pass, up to the first that does not
pub record Passed (p : ℕ → Bool) (s : List ℕ) (a n r : ℕ) : Type 0 where
  pub whole : eqb r n ≡ every p (cut s a (a + n))
  pub within : r ≤ n
  pub front : every p (cut s a (a + r)) ≡ true
  pub next : r < n → p (get_or s (a + r) 0) ≡ false

-- k of them have passed, and the rest decides
pub record Passing (p : ℕ → Bool) (s : List ℕ) (a n k : ℕ) : Type 0 where
  pub within : k ≤ n
  pub front : every p (cut s a (a + k)) ≡ true
  pub left : every p (cut s (a + k) (a + n)) ≡ every p (cut s a (a + n))

pub passing_start : (p : ℕ → Bool) (s : List ℕ) (a n : ℕ) → Passing p s a n 0
unfolding every
passing_start p s a n = record {
  within = omega arith;
  front = rw (add-zero, cut_done s a a (omega arith) (omega arith));
  left = rw add-zero;
}

module _ {p : ℕ → Bool} {s : List ℕ} {a n k : ℕ} (w : Passing p s a n k) where
  module _ (h : k < n) (l : a + n ≤ length s) (t : Bool) (u : t ≡ p (get_or s (a + k) 0)) where
    pub passing_more : t ≡ true → Passing p s a n (k + 1)
    unfolding every
    passing_more d =
        let e : a + (k + 1) ≡ a + k + 1 = omega arith in record {
          within = omega arith;
          front = rw (e, cut_snoc s a (a + k) (omega arith) (omega arith)) (every_join p (cut s a (a + k)) (get_or s (a + k) 0 ∷ []) w.front (rw (sym u ∙ d)));
          left = rw e (every_more p s (a + k) (a + n) _ w.left (omega arith) l t u d);
        }

    pub passed_before : t ≡ false → Passed p s a n k
    passed_before d = record {
      whole = place_before k n _ h (every_bad p s (a + k) (a + n) _ w.left (omega arith) l t u d);
      within = w.within;
      front = w.front;
      next = λ _. sym u ∙ d;
    }

  pub passed_end : n ≤ k → Passed p s a n k
  passed_end l = record {
    whole = place_end k n _ w.within l (every_end p s (a + k) (a + n) _ w.left (omega arith) (omega arith));
    within = w.within;
    front = w.front;
    next = λ (h : k < n). absurd (omega arith);
  }

-- all n bytes passed
pub passed_all : (p : ℕ → Bool) (s : List ℕ) (a n r : ℕ) → Passed p s a n r → n ≤ r → every p (cut s a (a + n)) ≡ true
passed_all p s a n r w h = let e : r ≡ n = omega (arith, w.within) in rw e at w.front

-- a run of low to high bytes
pub run_passed : (p : ℕ → Bool) (s : List ℕ) (a b low high r : ℕ) → Passed p s a (b - a) r → a ≤ b → b ≤ length s → low ≤ b - a → b - a ≤ high
    → eqb r (b - a) ≡ run p low high (cut s a b)
run_passed p s a b low high r w h k l m = let e : a + (b - a) ≡ b = omega arith in run_each p s a b low high k l m _ (rw e at w.whole)

-- ---- two parts, place by place

module _ (g : List ℕ → List ℕ → Bool) (p : ℕ → ℕ → Bool) (w : Pairs g p) (s t : List ℕ) (a b n k : ℕ) (x : Bool) (inv : g (cut s (a + k) (a + n)) (cut t (b + k) (b + n)) ≡ x) where
  pub pairs_before : k < n → a + n ≤ length s → b + n ≤ length t → (q : Bool) → q ≡ p (get_or s (a + k) 0) (get_or t (b + k) 0) → q ≡ false → eqb k n ≡ x
  pairs_before h l m q u d = place_before k n x h (pairs_bad g p w s t a b n k x inv h l m q u d)

  pub pairs_out : k ≤ n → n ≤ k → eqb k n ≡ x
  pairs_out h l = place_end k n x h l (pairs_end g p w s t a b n k x inv h l)

pub ruleset placing = (passing_start, passing_more, passed_before, passed_end, run_short, run_long, run_passed)
