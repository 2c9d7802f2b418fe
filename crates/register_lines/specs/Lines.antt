-- The checks of a single line: a law for each way out, the tests as calls answered them.
use Rattle.std.specs.Prelude.{◌≡◌, Bool, false, ◌&&◌, not, List, ℕ, ◌+◌, ◌-◌, ◌≤◌, ◌<◌, cond, eqb, get_or, leb, length, take, drop}
use Rattle.std.proofs.Math.Path.{sym}
use Rattle.std.proofs.Common.{◌∙◌, eq-eqb, ne_eqb}
use Rattle.std.proofs.Math.Bool.{true, and-true, and-false}
use native.Mathlib.Omega.{arith}
use borrow.Author.Tests.{not-true, not-false}
use Rattle.rules.specs.Text.{is_digit, is_alnum, every, digits}
use Rattle.rules.specs.Accounts.{passes}
use Rattle.laws.specs.Parts.{cut}
use Rattle.laws.specs.Tests.{and_right, not_holds}
use Rattle.laws.specs.Told.{told}
use Rattle.std.specs.Prelude as P
use Rattle.std.specs.Prelude.{Some, None, unwrap_or}
use Rattle.laws.specs.Slices.{part_cut}
use Rattle.register_lines.specs.AccountLine.{bound}
use Rattle.register_lines.specs.Places.{ends_at, bound_at, account_stands, code_stands, first_in}
use Rattle.register_lines.specs.Formed.{bounds_at, form_bounds, code_signs}
use Rattle.register_lines.specs.Alike.{Alike, part_alike, bounds_alike, bound_alike, ends_alike}
use Rattle.register_lines.specs.Forms.{ends_room}

-- a bound, as its digits were read
pub bound_whole : (cs : List ℕ) (q : P.Option ℕ) → told q ≡ digits cs → unwrap_or q 0 ≡ bound cs
unfolding bound
bound_whole cs (Some n) e = rw (← e)
bound_whole cs None e = rw (← e)

-- the first line has its room
pub first_room : (s : List ℕ) → first_in s ≡ true → 24 ≤ length s
unfolding first_in
first_room s h = ends_room s 22 (and_right (passes (cut s 0 22)) _ h)

pub first_short : (s : List ℕ) → length s < 24 → false ≡ first_in s
first_short s h = not_holds (first_in s) (λ w. let k : 24 ≤ length s = first_room s w in omega arith)

-- and its tests
module _ (s : List ℕ) (t : Bool) (u : t ≡ passes (take 22 s)) where
  pub first_passes : t ≡ true → (r : Bool) → r ≡ ends_at (take 2 (drop 22 s)) 0 → r ≡ first_in s
  unfolding first_in cut
  first_passes d r e = rw (← u, d) (e ∙ ends_alike (part_alike s 22 2) 0 (omega arith))

  pub first_fails : t ≡ false → false ≡ first_in s
  unfolding first_in cut
  first_fails d = rw (← u, d)

-- a test that a call answered
pub call_holds : (a t : Bool) → t ≡ a → not t ≡ false → a ≡ true
call_holds a t u d = sym u ∙ not-false t d

-- an account line: IBAN, bounds, end, order
module _ (s : List ℕ) (at : ℕ) (l : at + 38 ≤ length s) (t : Bool) (u : t ≡ passes (cut s at (at + 22))) where
  pub line_unpassed : not t ≡ true → false ≡ account_stands s at
  unfolding account_stands
  line_unpassed d = rw (← u, not-true t d, and-false)

  module _ (d : not t ≡ false) where
    -- the other tests
    behind_at : account_stands s at ≡ (bounds_at s (at + 22) && ends_at s (at + 36) && leb (bound_at s (at + 22 + 1)) (bound_at s (at + 22 + 8)))
    unfolding account_stands
    behind_at =
        let e : at + 22 + 1 ≡ at + 23 = omega arith in
        let f : at + 22 + 8 ≡ at + 30 = omega arith in
        let h : passes (cut s at (at + 22)) ≡ true = sym u ∙ not-false t d in
        rw (e, f, form_bounds s at (omega arith) h, h, and-true)

    module _ (t₂ : Bool) (u₂ : t₂ ≡ bounds_at s (at + 22)) where
      pub line_unbounded : not t₂ ≡ true → false ≡ account_stands s at
      line_unbounded d₂ = rw (behind_at, ← u₂, not-true t₂ d₂)

      module _ (d₂ : not t₂ ≡ false) where
        module _ (t₃ : Bool) (u₃ : t₃ ≡ ends_at s (at + 36)) where
          pub line_unended : not t₃ ≡ true → false ≡ account_stands s at
          line_unended d₃ = rw (behind_at, ← u₂, not-false t₂ d₂, ← u₃, not-true t₃ d₃)

          pub line_ordered : not t₃ ≡ false → (r : Bool) → r ≡ leb (bound_at s (at + 22 + 1)) (bound_at s (at + 22 + 8)) → r ≡ account_stands s at
          line_ordered d₃ r e = rw (behind_at, ← u₂, not-false t₂ d₂, ← u₃, not-false t₃ d₃) e

-- the bytes of one alone
module _ (s : List ℕ) (l : length s ≡ 38) (t : Bool) (u : t ≡ passes (take 22 s)) where
  own : t ≡ passes (cut s 0 22)
  unfolding cut
  own = u

  pub whole_unpassed : not t ≡ true → false ≡ account_stands s 0
  unfolding account_stands
  whole_unpassed d = rw (← own, not-true t d, and-false)

  module _ (d : not t ≡ false) where
    x : List ℕ
    x = take 14 (drop 22 s)

    -- the other tests
    behind : account_stands s 0 ≡ (bounds_at s 22 && ends_at s 36 && leb (bound_at s 23) (bound_at s 30))
    unfolding account_stands
    behind = let h : passes (cut s 0 22) ≡ true = sym own ∙ not-false t d in rw (form_bounds s 0 (omega arith) h, h, and-true)

    parts : account_stands s 0 ≡ (bounds_at x 0 && ends_at (take 2 (drop 36 s)) 0 && leb (bound_at x 1) (bound_at x 8))
    unfolding x
    parts =
        let w : Alike (take 14 (drop 22 s)) s 22 14 = part_alike s 22 14 in
        rw (bounds_alike w 0 (omega arith), ends_alike (part_alike s 36 2) 0 (omega arith), bound_alike w 1 (omega arith), bound_alike w 8 (omega arith)) behind

    module _ (t₂ : Bool) (u₂ : t₂ ≡ bounds_at (take 14 (drop 22 s)) 0) where
      pub whole_unbounded : not t₂ ≡ true → false ≡ account_stands s 0
      unfolding x
      whole_unbounded d₂ = rw (parts, ← u₂, not-true t₂ d₂)

      module _ (d₂ : not t₂ ≡ false) where
        module _ (t₃ : Bool) (u₃ : t₃ ≡ ends_at (take 2 (drop 36 s)) 0) where
          pub whole_unended : not t₃ ≡ true → false ≡ account_stands s 0
          unfolding x
          whole_unended d₃ = rw (parts, ← u₂, not-false t₂ d₂, ← u₃, not-true t₃ d₃)

          pub whole_ordered : not t₃ ≡ false → (r : Bool) → r ≡ leb (bound_at (take 14 (drop 22 s)) 1) (bound_at (take 14 (drop 22 s)) 8) → r ≡ account_stands s 0
          unfolding x
          whole_ordered d₃ r e = rw (parts, ← u₂, not-false t₂ d₂, ← u₃, not-false t₃ d₃) e

-- those of a code line: ten digits, a comma, 22 letters or digits, the end
module _ (s : List ℕ) (l : length s ≡ 35) where
  code_parts : code_stands s 0 ≡ (every is_digit (take 10 s) && cond (eqb 44 (get_or s 10 0)) (every is_alnum (take 22 (drop 11 s))) false && ends_at (take 2 (drop 33 s)) 0)
  unfolding cut
  code_parts = rw (part_cut s 11 33 (omega arith), ends_alike (part_alike s 33 2) 0 (omega arith)) (code_signs s 0 (omega arith))

  module _ (t : Bool) (u : t ≡ every is_digit (take 10 s)) where
    pub whole_undigit : not t ≡ true → false ≡ code_stands s 0
    whole_undigit h = rw (code_parts, ← u, not-true t h)

    module _ (k : not t ≡ false) where
      pub whole_uncomma : (get_or s 10 0 ≡ 44 → ⊥) → false ≡ code_stands s 0
      whole_uncomma h = rw (code_parts, ← u, not-false t k, ne_eqb 44 (get_or s 10 0) (λ e. h (sym e)))

      module _ (c : get_or s 10 0 ≡ 44) (q : Bool) (v : q ≡ every is_alnum (take 22 (drop 11 s))) where
        pub whole_unsigned : not q ≡ true → false ≡ code_stands s 0
        whole_unsigned h = rw (code_parts, ← u, not-false t k, eq-eqb 44 (get_or s 10 0) (sym c), ← v, not-true q h)

        pub whole_ends : not q ≡ false → (r : Bool) → r ≡ ends_at (take 2 (drop 33 s)) 0 → r ≡ code_stands s 0
        whole_ends h r e = rw (code_parts, ← u, not-false t k, eq-eqb 44 (get_or s 10 0) (sym c), ← v, not-false q h) e

pub ruleset lines = (bound_whole, first_short, first_passes, first_fails, whole_unpassed, whole_unbounded, whole_unended, whole_ordered, whole_undigit, whole_uncomma, whole_unsigned, whole_ends)
