-- What stands behind some bytes of a part.
use Rattle.std.specs.Prelude.{◌≡◌, refl, Bool, true, false, List, [], ◌∷◌, leb, drop}
use Prim.Native.Nat.{ℕ, ◌+◌, ◌-◌, ◌≤◌, ◌<◌, min}
use Rattle.std.proofs.Common.{arith, leb-true, leb-false}
use Rattle.std.proofs.Math.ListN.{length}
use Rattle.laws.specs.Parts.{cut, cut_size, cut_drop}
use Rattle.forms.specs.Spans.{span_of, SpanIn}
use Rattle.forms.specs.declared.rows.Span.{Span}

-- r is what stands behind the first k bytes of p
pub record Behind (p : Span) (k : ℕ) (r : Span) : Type 0 where
  pub start : r.start ≡ min (p.start + k) p.end
  pub end : r.end ≡ p.end

-- a part that ends where it begins, or before, has no bytes
past : (s : List ℕ) (a e : ℕ) → e ≤ a → cut s a e ≡ []
past s a e h = go (cut s a e) (cut_size s a e)
  where
    go : (l : List ℕ) → length l ≡ min e (length s) - a → l ≡ []
    go [] z = refl
    go (x ∷ l) z = absurd (omega arith)

module _ (s : List ℕ) (p : Span) (k : ℕ) (w : SpanIn s p) where
  module _ (r : Span) (b : Behind p k r) where
    pub behind_in : SpanIn s r
    behind_in = record { order = omega (arith, b.start, b.end, w.order); room = omega (arith, b.end, w.room) }

    pub behind_bytes : span_of s r ≡ drop k (span_of s p)
    behind_bytes = rw (cut_drop, b.end) (go (leb (p.start + k) p.end) refl)
      where
        go : (t : Bool) → leb (p.start + k) p.end ≡ t → cut s r.start p.end ≡ cut s (p.start + k) p.end
        go true h = let l : p.start + k ≤ p.end = leb-true _ _ h in let e : r.start ≡ p.start + k = omega (arith, b.start) in rw e
        go false h = let l : p.end < p.start + k = leb-false _ _ h in rw (past s r.start p.end (omega (arith, b.start)), past s (p.start + k) p.end (omega arith))
