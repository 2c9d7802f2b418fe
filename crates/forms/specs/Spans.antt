-- Parts of a message, as the code holds them.
use Rattle.std.specs.Prelude.{◌≡◌, refl, List, [], ◌∷◌, ◌++◌, map, ℕ, zero, suc, ◌+◌, ◌-◌, ◌≤◌, ◌<◌, length, get_or, take, drop, set, replicate}
use Rattle.std.proofs.Common.{sym, add-one, arith, take-suc-set}
use Rattle.std.proofs.lemmas.List.{map-append}
use Rattle.rules.specs.Lines.{Line}
use Rattle.laws.specs.Parts.{cut, cut_done}
use Rattle.laws.specs.Slices.{part_cut}
use Rattle.forms.specs.declared.rows.Span.{Span}

-- the bytes of a part
abbrev pub span_of : List ℕ → Span → List ℕ
span_of s p = cut s p.start p.end

-- the part of no bytes
abbrev pub no_span : Span
no_span = record { start = 0; end = 0 }

-- p is the part from a up to e
pub record SpanIs (a e : ℕ) (p : Span) : Type 0 where
  pub start : p.start ≡ a
  pub end : p.end ≡ e

-- the part lies within the text
pub record SpanIn (s : List ℕ) (p : Span) : Type 0 where
  pub order : p.start ≤ p.end
  pub room : p.end ≤ length s

-- its bytes, as a slice
pub span_slice : (s : List ℕ) (p : Span) → SpanIn s p → take (p.end - p.start) (drop p.start s) ≡ span_of s p
span_slice s p w = part_cut s p.start p.end w.order

-- ---- a list of parts

-- each lies within the text
pub record SpansWithin (s : List ℕ) (l : List Span) : Type 0 where
  pub span : (i : ℕ) → SpanIn s (get_or l i no_span)

pub within_at : (s : List ℕ) (l : List Span) (i : ℕ) → SpansWithin s l → SpanIn s (get_or l i no_span)
within_at s l i w = w.span i

pub within_order : (s : List ℕ) (l : List Span) (i : ℕ) → SpansWithin s l → (get_or l i no_span).start ≤ (get_or l i no_span).end
within_order s l i w = (w.span i).order

pub within_none : (s : List ℕ) (n : ℕ) → SpansWithin s (replicate n no_span)
within_none s n = record { span = go n }
  where
    go : (n i : ℕ) → SpanIn s (get_or (replicate n no_span) i no_span)
    go zero i = record { order = omega arith; room = omega arith }
    go (suc n) zero = record { order = omega arith; room = omega arith }
    go (suc n) (suc i) = go n i

pub within_set : (s : List ℕ) (l : List Span) (k : ℕ) (p : Span) → SpansWithin s l → SpanIn s p → SpansWithin s (set l k p)
within_set s l k p w h = record { span = go l k w.span }
  where
    go : (l : List Span) (k : ℕ) → ((i : ℕ) → SpanIn s (get_or l i no_span)) → (i : ℕ) → SpanIn s (get_or (set l k p) i no_span)
    go [] k f i = f i
    go (q ∷ l) zero f zero = h
    go (q ∷ l) zero f (suc i) = f (suc i)
    go (q ∷ l) (suc k) f zero = f zero
    go (q ∷ l) (suc k) f (suc i) = go l k (λ j. f (suc j)) i

-- the lines at the first k of them
unfoldable pub lines_at : List ℕ → List Span → ℕ → List Line
lines_at s l k = map (span_of s) (take k l)

pub span_none : (s : List ℕ) (l : List Span) → lines_at s l 0 ≡ []
unfolding lines_at
span_none s l = refl

-- one more line
pub span_more : (s : List ℕ) (l : List Span) (k : ℕ) (p : Span) → k < length l → lines_at s (set l k p) (k + 1) ≡ lines_at s l k ++ (span_of s p ∷ [])
unfolding lines_at
span_more s l k p h = rw (add-one k, take-suc-set l k p h) (map-append (span_of s) (take k l) (p ∷ []))

-- one of them
pub span_line : (s : List ℕ) (l : List Span) (n k : ℕ) → k < n → get_or (lines_at s l n) k [] ≡ span_of s (get_or l k no_span)
unfolding lines_at
span_line s l zero k h = absurd (omega arith)
span_line s [] (suc n) k h = sym (cut_done s 0 0 (omega arith) (omega arith))
span_line s (p ∷ l) (suc n) zero h = refl
span_line s (p ∷ l) (suc n) (suc k) h = span_line s l n k (omega arith)
