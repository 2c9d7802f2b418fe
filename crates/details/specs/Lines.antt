-- Lines kept as places: line k is the pair of numbers at 2 k. One set is that line; the others stay.
use Rattle.std.specs.Prelude.{◌≡◌, refl, List, [], ◌∷◌, ℕ, zero, suc, ◌+◌, ◌*◌, ◌≤◌, ◌<◌, get_or, set}
use Rattle.std.proofs.Common.{◌∙◌, add-zero, arith}
use Rattle.std.proofs.Math.ListN.{length, length-set}
use Rattle.std.proofs.Math.Seq.{get_or-set_same, get_or-set_other}
use Rattle.forms.specs.Spans.{no_span}
use Rattle.forms.specs.declared.rows.Span.{Span}

-- line k
abbrev pub line_at : List ℕ → ℕ → Span
line_at places k = record { start = get_or places (2 * k) 0; end = get_or places (2 * k + 1) 0 }

-- the places with p for line k
unfoldable pub with_line : List ℕ → ℕ → Span → List ℕ
with_line places k p = set (set places (2 * k) p.start) (2 * k + 1) p.end

module _ (places : List ℕ) (k : ℕ) (p : Span) where
  pub line_length : length (with_line places k p) ≡ length places
  unfolding with_line
  line_length = length-set (set places (2 * k) p.start) (2 * k + 1) p.end ∙ length-set places (2 * k) p.start

  two : (q : Span) → q.start ≡ p.start → q.end ≡ p.end → q ≡ p
  two q e f = rw (e, f)

  pub line_set : 2 * k + 1 < length places → line_at (with_line places k p) k ≡ p
  unfolding with_line
  line_set h =
      let l : length (set places (2 * k) p.start) ≡ length places = length-set places (2 * k) p.start in
      rw (
        get_or-set_other (set places (2 * k) p.start) (2 * k + 1) (2 * k) p.end 0 (λ e. omega arith),
        get_or-set_same places (2 * k) p.start 0 (omega arith),
        get_or-set_same (set places (2 * k) p.start) (2 * k + 1) p.end 0 (omega arith),
      )

  pub line_other : (j : ℕ) → (j ≡ k → ⊥) → line_at (with_line places k p) j ≡ line_at places j
  unfolding with_line
  line_other j n =
      rw (
        get_or-set_other (set places (2 * k) p.start) (2 * k + 1) (2 * j) p.end 0 (λ e. omega arith),
        get_or-set_other (set places (2 * k) p.start) (2 * k + 1) (2 * j + 1) p.end 0 (λ e. n (omega arith)),
        get_or-set_other places (2 * k) (2 * j) p.start 0 (λ e. n (omega arith)),
        get_or-set_other places (2 * k) (2 * j + 1) p.start 0 (λ e. omega arith),
      )

-- ---- some lines, one behind the other

-- the places with some lines from line k on
unfoldable pub with_lines : List ℕ → ℕ → List Span → List ℕ
with_lines places k [] = places
with_lines places k (p ∷ ps) = with_lines (with_line places k p) (k + 1) ps

pub lines_length : (places : List ℕ) (k : ℕ) (ps : List Span) → length (with_lines places k ps) ≡ length places
unfolding with_lines
lines_length places k [] = refl
lines_length places k (p ∷ ps) = lines_length (with_line places k p) (k + 1) ps ∙ line_length places k p

pub lines_before : (places : List ℕ) (k : ℕ) (ps : List Span) (j : ℕ) → j < k → line_at (with_lines places k ps) j ≡ line_at places j
unfolding with_lines
lines_before places k [] j h = refl
lines_before places k (p ∷ ps) j h = lines_before (with_line places k p) (k + 1) ps j (omega arith) ∙ line_other places k p j (λ e. omega arith)

pub lines_set : (places : List ℕ) (k : ℕ) (ps : List Span) (j : ℕ) → j < length ps → 2 * (k + length ps) ≤ length places → line_at (with_lines places k ps) (k + j) ≡ get_or ps j no_span
unfolding with_lines
lines_set places k [] j h b = absurd (omega arith)
lines_set places k (p ∷ ps) zero h b = rw (add-zero k) (lines_before (with_line places k p) (k + 1) ps k (omega arith) ∙ line_set places k p (omega arith))
lines_set places k (p ∷ ps) (suc j) h b =
    let e : k + suc j ≡ k + 1 + j = omega arith in
    rw e (lines_set (with_line places k p) (k + 1) ps j (omega arith) (omega (arith, line_length places k p)))
