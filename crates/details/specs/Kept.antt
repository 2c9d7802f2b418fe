-- Details as they are kept, each at its place: what is kept of one, and what holds of all.
use Rattle.std.specs.Prelude.{◌≡◌, refl, true, false, Bool, List, [], ◌∷◌, ◌++◌, ℕ, ◌+◌, ◌≤◌, ◌<◌, leb, length, get_or, take, drop}
use Rattle.std.proofs.Common.{sym, arith, length-append, length-take-le, leb-true, leb-false}
use Rattle.std.proofs.Math.ListN.{get_or-append}
use Rattle.std.proofs.Math.Seq.{get_or-take, get_or-append_seam}
use Rattle.rules.specs.Forms.{detail21, detail50h, detail52d, detail59, detail_baeref}
use Rattle.rules.specs.Messages as M
use Rattle.rules.specs.Messages.{line_of, rows_text, TakenDetail}
use Rattle.laws.specs.Parts.{from}
use Rattle.rule_laws.specs.Messages.{DetailRead, detail_read}
use Rattle.forms.specs.Spans.{span_of, no_span, SpanIn, within_at, lines_at, span_line}
use Rattle.forms.specs.Stretches.{StretchOf, stretch_of_lem}
use Rattle.forms.specs.Details.{DetailUpTo, DetailAt, detail_in}
use Rattle.forms.specs.declared.rows.Span.{Span}
use Rattle.forms.specs.declared.detail.Detail.{Detail}
use Rattle.details.specs.Message.{no_detail, detail_at}
use Rattle.details.specs.declared.kept.Kept.{Kept}

-- the part is line k of the detail
pub record LineOf (s : List ℕ) (d : M.Detail) (k : ℕ) (p : Span) : Type 0 where
  pub inside : SpanIn s p
  pub bytes : span_of s p ≡ line_of d.rows k

-- the part is n rows of the detail as they stand, from row k on
pub record RowsOf (s : List ℕ) (d : M.Detail) (k n : ℕ) (p : Span) : Type 0 where
  pub inside : SpanIn s p
  pub bytes : span_of s p ≡ rows_text (take n (drop k d.rows))

-- what is kept of detail d, which is read: its amount, the line of field 21, 50H's account line and its first three further lines, 52D's lines, those of 59 and BAEREF
pub record KeptOf (s : List ℕ) (d : M.Detail) (k : Kept) : Type 0 where
  pub read : DetailRead d
  pub amount : k.amount ≡ d.amount
  pub reference : LineOf s d detail21 k.reference
  pub payer : RowsOf s d detail50h 4 k.payer
  pub branch : RowsOf s d detail52d 2 k.branch
  pub account : LineOf s d detail59 k.account
  pub baeref : LineOf s d detail_baeref k.baeref

-- ---- one detail

-- the stretch from part k up to part j
abbrev pub stretch_of : List Span → ℕ → ℕ → Span
stretch_of l k j = record { start = (get_or l k no_span).start; end = (get_or l j no_span).start }

-- what is kept of a detail
abbrev pub kept_of : Detail → Kept
kept_of d = record {
  amount = d.amount;
  reference = get_or d.spans detail21 no_span;
  payer = stretch_of d.spans detail50h (detail50h + 4);
  branch = stretch_of d.spans detail52d (detail52d + 2);
  account = get_or d.spans detail59 no_span;
  baeref = get_or d.spans detail_baeref no_span;
}

module _ (s : List ℕ) (d : Detail) {at : ℕ} (v : DetailAt s at d) where
  w : DetailUpTo s at d v.next
  w = v.up_to

  line_of_lem : (j : ℕ) → j < 17 → LineOf s (detail_in s d) j (get_or d.spans j no_span)
  line_of_lem j l = record { inside = within_at s d.spans j w.within; bytes = sym (span_line s d.spans 17 j l) }

  rows_of : (j n : ℕ) → j + n < 17 → RowsOf s (detail_in s d) j n (stretch_of d.spans j (j + n))
  unfolding lines_at
  rows_of j n l =
      let t : StretchOf s (take 17 d.spans) j n = stretch_of_lem w.stand.stands j n (rw (length-take-le 17 d.spans (omega (arith, w.stand.size))) l) in
      record {
        inside = record { order = rw (get_or-take 17 d.spans j no_span (omega arith), get_or-take 17 d.spans (j + n) no_span l) at t.order; room = omega (arith, (within_at s d.spans (j + n) w.within).order, (within_at s d.spans (j + n) w.within).room) };
        bytes = rw (get_or-take 17 d.spans j no_span (omega arith), get_or-take 17 d.spans (j + n) no_span l) at t.text;
      }

  pub kept_told : KeptOf s (detail_in s d) (kept_of d)
  kept_told = record {
    read = detail_read (from s at) _ w.same;
    amount = refl;
    reference = line_of_lem detail21 (omega arith);
    payer = rows_of detail50h 4 (omega arith);
    branch = rows_of detail52d 2 (omega arith);
    account = line_of_lem detail59 (omega arith);
    baeref = line_of_lem detail_baeref (omega arith);
  }

-- ---- the first 16 of some details

-- P holds of each, at its place
pub record OfFirst (P : M.Detail → ℕ → Type 0) (ds : List M.Detail) : Type 0 where
  pub each : (i : ℕ) → i < length ds → i < 16 → P (detail_at ds i) i

-- a list with one more at its end: those before stay, the last is it
module _ (ds : List M.Detail) (d : M.Detail) where
  pub more_length : length (ds ++ (d ∷ [])) ≡ length ds + 1
  more_length = length-append ds (d ∷ [])

  pub more_before : (i : ℕ) → i < length ds → detail_at (ds ++ (d ∷ [])) i ≡ detail_at ds i
  more_before i h = get_or-append ds (d ∷ []) no_detail i h

  pub more_last : (i : ℕ) → i ≡ length ds → detail_at (ds ++ (d ∷ [])) i ≡ d
  more_last i e = rw e (get_or-append_seam ds d [] no_detail)

-- a place is before the last or the last
module _ {A : Type 0} (i n : ℕ) (h : i < n + 1) where
  before_or_last : (i < n → A) → (i ≡ n → A) → A
  before_or_last f g = go (leb n i) refl
    where
      go : (t : Bool) → leb n i ≡ t → A
      go true e = let l : n ≤ i = leb-true n i e in g (omega arith)
      go false e = f (leb-false n i e)

pub first_none : {P : M.Detail → ℕ → Type 0} → OfFirst P []
first_none = record { each = λ i h k. absurd (omega arith) }

module _ {P : M.Detail → ℕ → Type 0} (ds : List M.Detail) (o : OfFirst P ds) (d : M.Detail) where
  -- one more behind the sixteenth
  pub first_full : 16 ≤ length ds → OfFirst P (ds ++ (d ∷ []))
  first_full h = record { each = λ i l m. rw (more_before ds d i (omega arith)) (o.each i (omega arith) m) }

  -- one more: what is kept now holds of those before as it did, and of this one
  pub first_more : {Q : M.Detail → ℕ → Type 0} → ((e : M.Detail) (i : ℕ) → i < length ds → P e i → Q e i) → Q d (length ds) → OfFirst Q (ds ++ (d ∷ []))
  first_more f g = record {
    each = λ i l m. before_or_last i (length ds) (rw (more_length ds d) at l)
        (λ b. rw (more_before ds d i b) (f (detail_at ds i) i b (o.each i b m)))
        (λ e. rw (more_last ds d i e) (rw e g));
  }
