-- The checks of a register's text: a law for each way out, the tests as calls answered them.
use Rattle.std.specs.Prelude.{◌≡◌, Bool, true, false, not, List, ℕ, ◌+◌, ◌-◌, ◌*◌, ◌≤◌, length, take, drop}
use Rattle.std.proofs.Math.Path.{sym}
use Rattle.std.proofs.Common.{◌∙◌}
use borrow.Author.Tests.{eq-eqb, ne_eqb, not-true, not-false}
use Rattle.rules.specs.Text.{equal, is_some}
use Rattle.rules.specs.Register.{register, old_register}
use Rattle.rules.specs.Moves.{end_line}
use Rattle.laws.specs.Parts.{from, cut}
use Rattle.laws.specs.Equal.{rest_differs, rest_alike}
use Rattle.laws.specs.Slices.{rest_whole}
use Rattle.laws.specs.Tests.{passed_told}
use Rattle.register_lines.specs.Places.{first_in, repeat_in, account_stands, code_stands}
use Rattle.register.specs.Whole.{count, code_count, again_in, foreign_in, lines_test, closes_at, passes_in, old_in}
use Rattle.register.specs.Passed.{some_given, old_given}
use Rattle.register_lines.specs.Counts.{LinesFrom}
use Rattle.register_lines.specs.Lines.{first_room}

-- account lines and code lines: IBANs, accounts, codes
module _ (s : List ℕ) (n m : ℕ) (t : Bool) (u : t ≡ again_in s n) where
  pub lines_again : t ≡ true → false ≡ lines_test s n m
  unfolding lines_test
  lines_again d = rw (← u, d)

  module _ (d : t ≡ false) (t₂ : Bool) (u₂ : t₂ ≡ foreign_in s n (24 + 38 * n) m) where
    pub lines_foreign : t₂ ≡ true → false ≡ lines_test s n m
    unfolding lines_test
    lines_foreign d₂ = rw (← u, d, ← u₂, d₂)

    pub lines_single : t₂ ≡ false → (t₃ : Bool) → t₃ ≡ repeat_in s 10 35 (24 + 38 * n) 0 m → not t₃ ≡ lines_test s n m
    unfolding lines_test
    lines_single d₂ t₃ u₃ = rw (u₃, ← u, d, ← u₂, d₂)

-- the last line, of other bytes or as a part
module _ (s : List ℕ) (at : ℕ) where
  pub closes_other : (length s - at ≡ 5 → ⊥) → false ≡ closes_at s at
  unfolding closes_at
  closes_other = rest_differs s end_line at

  pub closes_part : at ≤ length s → length s - at ≡ 5 → (r : Bool) → r ≡ equal (cut s at (at + 5)) (cut end_line 0 5) → r ≡ closes_at s at
  unfolding closes_at
  closes_part = rest_alike s end_line at

-- the last line
pub closes_told : (s : List ℕ) (at : ℕ) (r : Bool) → r ≡ equal (take (length s - at) (drop at s)) end_line → r ≡ closes_at s at
unfolding closes_at from
closes_told s at r e = rw (rest_whole s at) at e

-- the whole text
module _ (s : List ℕ) where
  module _ (t : Bool) (u : t ≡ first_in s) where
    pub first_told : not t ≡ false → 24 ≤ length s
    first_told d = first_room s (passed_told t (first_in s) u d)

    pub fails_first : not t ≡ true → false ≡ is_some (register s)
    unfolding passes_in
    fails_first d = sym (some_given s ∙ rw (← u, not-true t d))

    pub old_first : not t ≡ true → false ≡ is_some (old_register s)
    unfolding old_in
    old_first d = sym (old_given s ∙ rw (← u, not-true t d))

    module _ (d : not t ≡ false) (n : ℕ) (a : LinesFrom account_stands 38 s 24 n) where
      module _ (m : ℕ) (c : LinesFrom code_stands 35 s (24 + 38 * n) m) (e : Bool) (f : e ≡ closes_at s (24 + 38 * n + 35 * m)) where
        pub fails_close : not e ≡ true → false ≡ is_some (register s)
        unfolding passes_in count code_count
        fails_close g = sym (some_given s ∙ rw (← u, not-false t d, ← a.value, ← c.value, ← f, not-true e g))

        pub passes_lines : not e ≡ false → (r : Bool) → r ≡ lines_test s n m → r ≡ is_some (register s)
        unfolding passes_in count code_count
        passes_lines g r k = sym (some_given s ∙ rw (← u, not-false t d, ← a.value, ← c.value, ← f, not-false e g, k))

      pub old_unfilled : (length s ≡ 24 + 38 * n → ⊥) → false ≡ is_some (old_register s)
      unfolding old_in count
      old_unfilled g = sym (old_given s ∙ rw (← u, not-false t d, ← a.value, ne_eqb (length s) (24 + 38 * n) g))

      pub old_lines : length s ≡ 24 + 38 * n → (r : Bool) → r ≡ lines_test s n 0 → r ≡ is_some (old_register s)
      unfolding old_in count
      old_lines g r k = sym (old_given s ∙ rw (← u, not-false t d, ← a.value, eq-eqb (length s) (24 + 38 * n) g, k))

pub ruleset checks = (lines_again, lines_foreign, lines_single, closes_told, first_told, fails_first, fails_close, passes_lines, old_first, old_unfilled, old_lines)
