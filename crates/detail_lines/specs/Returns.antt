-- The MT103 of a returned detail, off the parts of its lines.
use Rattle.std.specs.Prelude.{◌≡◌, List, ℕ, ◌+◌, ◌-◌, ◌≤◌, length, take, drop}
use Rattle.std.proofs.Math.Path.{ap}
use Rattle.std.proofs.Common.{◌∙◌, arith}
use Rattle.rules.specs.Forms.{detail50h, detail52d}
use Rattle.rules.specs.Messages.{Detail, past}
use Rattle.rules.specs.Written.{Book, return103, return_of}
use Rattle.laws.specs.Parts.{cut, from, from_take}
use Rattle.laws.specs.Writing.{Wrote}
use Rattle.forms.specs.Spans.{span_of, SpanIn}
use Rattle.forms.specs.Fields.{Behind, behind_in, behind_bytes}
use Rattle.forms.specs.declared.rows.Span.{Span}
use Rattle.details.specs.Kept.{RowsOf}

module _ (s : List ℕ) (p : Span) (w : SpanIn s p) (k : ℕ) (q : Span) (b : Behind p k q) where
  pub behind_order : q.start ≤ q.end
  behind_order = (behind_in s p k w q b).order

  pub behind_room : q.end ≤ length s
  behind_room = (behind_in s p k w q b).room

  -- what stands behind the first k bytes of a part, as a slice
  behind_slice : take (q.end - q.start) (drop q.start s) ≡ drop k (span_of s p)
  unfolding from
  behind_slice =
      let e : q.start + (q.end - q.start) ≡ q.end = omega (arith, behind_order) in
      from_take s q.start (q.end - q.start) ∙ ap (λ (x : ℕ). cut s q.start x) e ∙ behind_bytes s p k w q b

pub return_wrote : (s : List ℕ) (b : Book) (n v : ℕ) (branch payer : Span) → SpanIn s branch → SpanIn s payer → (q z : Span) → Behind branch 5 q → Behind payer 5 z → {at r : ℕ} {out out' : List ℕ}
    → Wrote (return103 b n v (take (q.end - q.start) (drop q.start s)) (take (z.end - z.start) (drop z.start s))) at out r out' → Wrote (return103 b n v (past ":52D:" (span_of s branch)) (past ":50H:" (span_of s payer))) at out r out'
return_wrote s b n v branch payer h k q z e f w = rw (behind_slice s branch h 5 q e, behind_slice s payer k 5 z f) at w

-- it is the detail's
pub return_kept : (s : List ℕ) (b : Book) (n v : ℕ) (d : Detail) (branch payer : Span) → v ≡ d.amount → RowsOf s d detail52d 2 branch → RowsOf s d detail50h 4 payer → return103 b n v (past ":52D:" (span_of s branch)) (past ":50H:" (span_of s payer)) ≡ return_of b n d
unfolding return_of
return_kept s b n v d branch payer e h k = rw (e, h.bytes, k.bytes)
