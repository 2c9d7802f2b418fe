-- A walk over records of 24 bytes: a test at each place, and the law for each way on and out of the loop that makes it.
use Rattle.std.specs.Prelude.{◌≡◌, Bool, true, false, cond, ℕ, zero, suc, ◌+◌, ◌-◌, ◌≤◌, ◌<◌}
use native.Mathlib.Omega.{arith}
use Rattle.rules.specs.Area.{record_size}

-- a test of a place alone
abbrev pub always : (ℕ → Bool) → ℕ → ℕ → Bool
always f k p = f p

-- k records from the place p on pass the test, which is handed how many follow, and the record's place
unfoldable pub walk : (ℕ → ℕ → Bool) → ℕ → ℕ → Bool
walk t zero p = true
walk t (suc k) p = let r = walk t k (p + record_size) in cond (t k p) r false

walk_step : (t : ℕ → ℕ → Bool) (k p : ℕ) → 0 < k → walk t k p ≡ cond (t (k - 1) p) (walk t (k - 1) (p + record_size)) false
unfolding walk
walk_step t zero p h = absurd (omega arith)
walk_step t (suc k) p h = let e : suc k - 1 ≡ k = omega arith in rw e

module _ (t : ℕ → ℕ → Bool) (k p : ℕ) (x : Bool) (inv : walk t k p ≡ x) where
  module _ (h : 0 < k) (q : Bool) (u : q ≡ t (k - 1) p) where
    pub walk_more : q ≡ true → walk t (k - 1) (p + record_size) ≡ x
    walk_more d = rw (walk_step t k p h, ← u, d) at inv

    pub walk_bad : q ≡ false → false ≡ x
    walk_bad d = rw (walk_step t k p h, ← u, d) at inv

  pub walk_end : k ≤ 0 → true ≡ x
  unfolding walk
  walk_end h = let e : k ≡ 0 = omega arith in rw e at inv

pub ruleset walking = (walk_more, walk_bad, walk_end)
