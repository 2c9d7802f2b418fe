-- A walk over records, whatever tests them: it answers for every test that says what the calls answer.
use Rattle.std.specs.Prelude.{◌≡◌, Bool, true, false, ◌&&◌, List, ℕ, ◌+◌, ◌-◌, ◌*◌, ◌≤◌, ◌<◌}
use Rattle.std.proofs.Common.{arith}
use Rattle.rules.specs.Text.{every}
use Rattle.rules.specs.Area.{record_size}
use Rattle.laws.specs.Parts.{cut}
use Rattle.engine_laws.specs.Walk.{walk, always, walk_more, walk_bad, walk_end}
use Rattle.engine_laws.specs.Tests.{is_zero}

-- the answers of n calls are those of a test
abbrev pub Tells : (ℕ → Bool → Type 0) → ℕ → ℕ → (ℕ → Bool) → Type 0
Tells post n first test = (k : ℕ) (q : Bool) → k < n → post (first + record_size * k) q → q ≡ test (first + record_size * k)

abbrev pub Walks : (ℕ → Bool → Type 0) → ℕ → ℕ → Bool → Type 0
Walks post n first r = (test : ℕ → Bool) → Tells post n first test → r ≡ walk (always test) n first

-- two walks over a section, and zeros behind its records
abbrev pub Sections : (ℕ → Bool → Type 0) → (ℕ → Bool → Type 0) → List ℕ → ℕ → ℕ → ℕ → Bool → Type 0
Sections fits before a first end n r =
    (test order : ℕ → Bool) → Tells fits n first test → Tells before (n - 1) first order → r ≡ (walk (always test) n first && (walk (always order) (n - 1) first && every is_zero (cut a (first + record_size * n) end)))

-- the records from the k-th on answer for all
pub record Left (post : ℕ → Bool → Type 0) (n first k : ℕ) : Type 0 where
  pub same : (test : ℕ → Bool) → Tells post n first test → walk (always test) (n - k) (first + record_size * k) ≡ walk (always test) n first

module _ {post : ℕ → Bool → Type 0} {n first k : ℕ} (l : Left post n first k) where
  pub left_none : n ≤ k → Walks post n first true
  left_none h test t = walk_end (always test) (n - k) (first + record_size * k) _ (l.same test t) (omega arith)

  module _ (h : k < n) (q : Bool) (p : post (first + record_size * k) q) where
    pub left_more : q ≡ true → Left post n first (k + 1)
    left_more d = record {
      same = λ test t.
          let e : n - k - 1 ≡ n - (k + 1) = omega arith in
          let f : first + record_size * k + record_size ≡ first + record_size * (k + 1) = omega arith in
          rw (e, f) at (walk_more (always test) (n - k) (first + record_size * k) _ (l.same test t) (omega arith) q (t k q h p) d);
    }

    pub left_bad : q ≡ false → Walks post n first false
    left_bad d test t = walk_bad (always test) (n - k) (first + record_size * k) _ (l.same test t) (omega arith) q (t k q h p) d
