-- How many of some records stand before what is looked for, whatever tests them: those up to the first that does not.
use Rattle.std.specs.Prelude.{◌≡◌, Bool, true, false, ℕ, zero, suc, ◌+◌, ◌≤◌, ◌<◌}
use Rattle.std.proofs.Common.{add-one, arith, inl, inr}
use Rattle.std.proofs.lemmas.Bool.{cases_lt}

-- the first i stand before it
pub record Before (post : ℕ → Bool → Type 0) (i : ℕ) : Type 0 where
  pub passed : (j : ℕ) → j < i → post j true

-- r of n do, and no more behind them
pub record UpTo (post : ℕ → Bool → Type 0) (n r : ℕ) : Type 0 where
  pub within : r ≤ n
  pub passed : (j : ℕ) → j < r → post j true
  pub stopped : r < n → post r false

pub front_start : (post : ℕ → Bool → Type 0) → Before post 0
front_start post = record { passed = λ j h. absurd (omega arith) }

module _ {post : ℕ → Bool → Type 0} {i : ℕ} (b : Before post i) where
  pub front_more : (q : Bool) → post i q → q ≡ true → Before post (i + 1)
  front_more q p e = record {
    passed = λ j h.
        elim (cases_lt j i) [
          | inl l ↦ b.passed j l
          | inr l ↦ let s : j ≡ i = omega arith in rw (s, ← e) p
        ];
  }

  module _ (n : ℕ) where
    pub front_here : i < n → (q : Bool) → post i q → q ≡ false → UpTo post n i
    front_here h q p e = record { within = omega arith; passed = b.passed; stopped = λ l. rw (← e) p }

    pub front_end : i ≡ n → UpTo post n n
    front_end e = record { within = omega arith; passed = λ j h. b.passed j (omega arith); stopped = λ l. absurd (omega arith) }

-- what holds before the first and goes on past each of them holds behind them
module _ {post : ℕ → Bool → Type 0} {n r : ℕ} (u : UpTo post n r) (P : ℕ → Type 0) (z : P 0) (s : (i : ℕ) → i < n → post i true → P i → P (i + 1)) where
  reach : (j : ℕ) → j ≤ r → P j
  reach zero h = z
  reach (suc j) h = rw add-one at (s j (omega (arith, u.within)) (u.passed j (omega arith)) (reach j (omega arith)))

  pub behind : P r
  behind = reach r (omega arith)

pub ruleset fronting = (front_start, front_more, front_here, front_end)
