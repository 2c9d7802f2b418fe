-- The rows of a listed detail, off the parts of its lines.
use Rattle.std.specs.Prelude.{◌≡◌, List, ◌++◌, ℕ, take, ◌+◌, ◌-◌, ◌≤◌, ◌<◌, drop}
use Rattle.std.proofs.Common.{arith, take_all}
use Rattle.rules.specs.Text.{ascii}
use Rattle.rules.specs.Forms.{detail52d, detail59, detail_baeref}
use Rattle.rules.specs.Messages.{Detail, past}
use Rattle.rules.specs.Written.{listed_rows}
use Rattle.laws.specs.Parts.{cut, cut_take, cut_length}
use Rattle.laws.specs.Writing.{Wrote}
use Rattle.rule_laws.specs.Messages.{DetailRead}
use Rattle.rule_laws.specs.Returns.{branch_begins}
use Rattle.forms.specs.Spans.{span_of, SpanIn}
use Rattle.forms.specs.Fields.{Behind, behind_in, behind_bytes}
use Rattle.forms.specs.declared.rows.Span.{Span}
use Rattle.details.specs.Kept.{LineOf, RowsOf}

module _ (s : List ℕ) (p q : Span) (k : ℕ) (w : SpanIn s p) (b : Behind p k q) where
  bytes : span_of s q ≡ drop k (span_of s p)
  bytes = behind_bytes s p k w q b

  within : SpanIn s q
  within = behind_in s p k w q b

  module _ {at r : ℕ} {out out' : List ℕ} where
    pub behind_wrote : Wrote (cut s q.start q.end) at out r out' → Wrote (drop k (span_of s p)) at out r out'
    behind_wrote v = rw (← bytes) v

    pub front_short : (n : ℕ) → q.end - q.start ≤ n → Wrote (cut s q.start q.end) at out r out' → Wrote (take n (drop k (span_of s p))) at out r out'
    front_short n h v = rw (← bytes, take_all n (span_of s q) (rw (cut_length s q.start q.end within.room) h)) v

    pub front_long : (n : ℕ) → n < q.end - q.start → Wrote (cut s q.start (q.start + n)) at out r out' → Wrote (take n (drop k (span_of s p))) at out r out'
    front_long n h v = rw (← bytes, cut_take s q.start q.end n (omega (arith, h))) v

-- 52D's BAE, a slash, BAEREF's date, a slash
abbrev pub row_front : List ℕ → List ℕ → List ℕ
row_front branch baeref = take 8 (past ":52D:" branch) ++ ascii "/" ++ take 6 (past "BAEREF" baeref) ++ ascii "/"

-- off 52D's lines and those of 59 and BAEREF
abbrev pub rows_of : List ℕ → List ℕ → List ℕ → List ℕ
rows_of branch account baeref = (row_front branch baeref ++ past "BAEREFnnnnnn" baeref ++ ascii "\r\n") ++ (past ":59:/" account ++ ascii "\r\n")

pub rows_kept : (s : List ℕ) (d : Detail) (branch account baeref : Span) → DetailRead d → RowsOf s d detail52d 2 branch → LineOf s d detail59 account → LineOf s d detail_baeref baeref
    → rows_of (span_of s branch) (span_of s account) (span_of s baeref) ≡ listed_rows d
unfolding listed_rows
rows_kept s d branch account baeref r h k l = rw (h.bytes, branch_begins r, k.bytes, l.bytes)
