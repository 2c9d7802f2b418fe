-- Lines matched against rows one by one: a law for each way that a row takes a line, and for the loop over the rows. The lines matched so far stand before what the rows that are left make of the rest.
use Rattle.std.specs.Prelude.{◌≡◌, refl, Bool, true, false, List, [], ◌∷◌, ◌++◌, ℕ, ◌+◌, ◌-◌, ◌≤◌, ◌<◌, length, take, drop, set, replicate}
use Rattle.std.proofs.Common.{sym, ◌∙◌, append_assoc, append-nil, add-zero, arith, add-one, length-set, take-suc-set, subst}
use Rattle.std.proofs.Math.Path.{ap}
use Rattle.std.specs.Prelude.{Option, Some, None, MatchOption}
use Rattle.std.proofs.Math.Option as Paper
use Rattle.std.proofs.Math.Option.{none, some}
use Rattle.std.proofs.Math.Nat.{sub-zero}
use Rattle.std.proofs.lemmas.List.{length-replicate}
use Rattle.rules.specs.Lines.{Line, TakenLine, take_line}
use Rattle.rules.specs.Forms as F
use Rattle.rules.specs.Forms.{fits_row, TakenRows, lead_rows, take_rows}
use Rattle.laws.specs.Parts.{cut, from, cut_done}
use Rattle.laws.specs.Slices.{part_cut}
use Rattle.laws.specs.Tests.{never}
use Rattle.lines.specs.Answers.{LineEnd, NoLine}
use Rattle.lines.specs.declared.reader.LineReader.{LineReader}
use Rattle.forms.specs.Table.{row_of, code_at, RowAt, row_told, row_some, part, part_none, part_step}
use Rattle.forms.specs.Spans.{span_of, no_span, SpanIs, SpanIn, SpansWithin, within_none, within_set, lines_at, span_none, span_more}
use Rattle.forms.specs.Stretches.{RowStretch, line_stretch, out_stretch, Standing, Standing.end, stands_more, RowsStand}
use Rattle.forms.specs.declared.rows.Span.{Span}
use Rattle.forms.specs.declared.table.Row.{Row}

-- what the rows make of the text from `at` on: their lines are the parts l, and the text goes on at `next`
pub record RowsAt (s : List ℕ) (at first count : ℕ) (l : List Span) (next : ℕ) : Type 0 where
  pub same : take_rows (part first count) (from s at) ≡ some record { rows = lines_at s l count; others = from s next }
  pub place : next ≤ length s
  pub within : SpansWithin s l
  pub stand : RowsStand s at count l next

-- what the rows take off a reader
pub record RowsTaken (old new : LineReader) (first count : ℕ) (r : Option (List Span)) : Type 0 where
  pub text : new.text ≡ old.text
  pub taken : MatchOption r (take_rows (part first count) (from old.text.now old.at) ≡ none) (λ l. RowsAt old.text.now old.at first count l new.at)

-- by the text that the reader is over, and its place there
module _ (s : List ℕ) (at f n : ℕ) (old new : LineReader) (o : old.text.now ≡ s) (e : old.at ≡ at) where
  pub rows_none_taken : RowsTaken old new f n None → take_rows (part f n) (from s at) ≡ none
  rows_none_taken w = rw (o, e) at w.taken

  pub rows_taken : (l : List Span) → RowsTaken old new f n (Some l) → RowsAt s at f n l new.at
  rows_taken l w = rw (o, e) at w.taken

-- ---- lines before others

lead_none : (ls : List Line) → lead_rows ls none ≡ none
unfolding lead_rows
lead_none ls = refl

lead_nil : (o : Paper.Option TakenRows) → lead_rows [] o ≡ o
unfolding lead_rows
lead_nil none = refl
lead_nil (some r) = refl

lead_more : (ls : List Line) (l : Line) (o : Paper.Option TakenRows) → lead_rows (ls ++ (l ∷ [])) o ≡ lead_rows ls (lead_rows (l ∷ []) o)
unfolding lead_rows
lead_more ls l none = refl
lead_more ls l (some r) = ap {B = Paper.Option TakenRows} (λ (x : List Line). some record { rows = x; others = r.others }) (append_assoc ls (l ∷ []) r.rows)

lead_done : (ls : List Line) (cs : List ℕ) → lead_rows ls (take_rows [] cs) ≡ some record { rows = ls; others = cs }
unfolding lead_rows take_rows
lead_done ls cs = ap {B = Paper.Option TakenRows} (λ (x : List Line). some record { rows = x; others = cs }) (append-nil ls)

-- ---- a text against its first row

module _ (r : F.Row) (rs : List F.Row) (cs : List ℕ) where
  row_none : take_line cs ≡ none → take_rows (r ∷ rs) cs ≡ none
  unfolding take_rows
  row_none e = rw e

  module _ (t : TakenLine) (e : take_line cs ≡ some t) where
    row_with : fits_row r t.line ≡ true → take_rows (r ∷ rs) cs ≡ lead_rows (t.line ∷ []) (take_rows rs t.others)
    unfolding take_rows
    row_with h = rw (e, h)

    row_without : fits_row r t.line ≡ false → r.optional ≡ true → take_rows (r ∷ rs) cs ≡ lead_rows ([] ∷ []) (take_rows rs cs)
    unfolding take_rows
    row_without h m = rw (e, h, m)

    row_bad : fits_row r t.line ≡ false → r.optional ≡ false → take_rows (r ∷ rs) cs ≡ none
    unfolding take_rows
    row_bad h m = rw (e, h, m)

-- ---- the line at a place matched against row k

-- row k makes nothing of the text from `at` on, whatever rows follow
abbrev pub NoRow : List ℕ → ℕ → ℕ → Type 0
NoRow s at k = (rs : List F.Row) → take_rows (row_of (code_at k) ∷ rs) (from s at) ≡ none

-- its line is the part p, before what the rows that follow make of the text from `next` on
pub record RowHolds (s : List ℕ) (at k : ℕ) (p : Span) (next : ℕ) : Type 0 where
  pub place : next ≤ length s
  pub within : SpanIn s p
  pub goes : (rs : List F.Row) → take_rows (row_of (code_at k) ∷ rs) (from s at) ≡ lead_rows (span_of s p ∷ []) (take_rows rs (from s next))
  pub stands : RowStretch s at p next

-- what row k takes off a reader
pub record RowTaken (old new : LineReader) (k : ℕ) (r : Option Span) : Type 0 where
  pub text : new.text ≡ old.text
  pub taken : MatchOption r (NoRow old.text.now old.at k) (λ p. RowHolds old.text.now old.at k p new.at)

module _ (s : List ℕ) (old new : LineReader) (k : ℕ) (o : old.text.now ≡ s) where
  pub row_none_taken : RowTaken old new k None → NoRow s old.at k
  row_none_taken w = subst (λ (x : List ℕ). NoRow x old.at k) o w.taken

  pub row_taken : (p : Span) → RowTaken old new k (Some p) → RowHolds s old.at k p new.at
  row_taken p w = subst (λ (x : List ℕ). RowHolds x old.at k p new.at) o w.taken

module _ (s : List ℕ) (at k : ℕ) (w : at ≤ length s) (b : k < 40) where
  pub no_line : NoLine s at → NoRow s at k
  no_line e rs = row_none _ _ _ e.same

  module _ (r : Row) (y : RowAt k r) (e : ℕ) (l : LineEnd s at e) (t : Bool) (u : t ≡ fits_row (row_of r) (take (e - at) (drop at s))) where
    row_is : t ≡ fits_row (row_of (code_at k)) (cut s at e)
    row_is = rw (← y.same) (rw (part_cut s at e l.start) at u)

    left_out : {b : Bool} → r.optional ≡ b → (row_of (code_at k)).optional ≡ b
    unfolding row_of
    left_out g = ap (λ (x : Row). x.optional) (sym y.same) ∙ g

    pub line_fits : t ≡ true → (p : Span) → SpanIs at e p → RowHolds s at k p (e + 2)
    line_fits d p h = record {
      place = l.room;
      within = record { order = omega (arith, h.start, h.end, l.start); room = omega (arith, h.end, l.room) };
      goes = λ rs. rw (h.start, h.end) (row_with _ _ _ _ l.same (sym row_is ∙ d));
      stands = line_stretch s at e p l h.start h.end (λ z. never (rw (z, row_some b) at (sym row_is ∙ d)));
    }

    module _ (d : t ≡ false) where
      pub line_left : r.optional ≡ true → (p : Span) → SpanIs at at p → RowHolds s at k p at
      line_left g p h = record {
        place = w;
        within = record { order = omega (arith, h.start, h.end); room = omega (arith, h.end, w) };
        goes = λ rs. rw (h.start, h.end, cut_done s at at (omega arith) (omega arith)) (row_without _ _ _ _ l.same (sym row_is ∙ d) (left_out g));
        stands = out_stretch s at p h.start h.end;
      }

      pub line_other : r.optional ≡ false → NoRow s at k
      line_other g rs = row_bad _ _ _ _ l.same (sym row_is ∙ d) (left_out g)

-- ---- the loop over the rows

-- i rows are matched: their lines stand before what the rows that are left make of the text from `pos` on
pub record Rowing (s : List ℕ) (at first count : ℕ) (l : List Span) (pos i : ℕ) : Type 0 where
  pub few : i ≤ count
  pub place : pos ≤ length s
  pub size : length l ≡ count
  pub same : lead_rows (lines_at s l i) (take_rows (part (first + i) (count - i)) (from s pos)) ≡ take_rows (part first count) (from s at)
  pub within : SpansWithin s l
  pub stands : Standing s at (take i l) pos

module _ (s : List ℕ) (at f n : ℕ) where
  pub rows_start : at ≤ length s → Rowing s at f n (replicate n no_span) at 0
  rows_start h = record { few = omega arith; place = h; size = length-replicate n no_span; same = rw (span_none, add-zero f, sub-zero n) (lead_nil _); within = within_none s n; stands = end }

  module _ (l : List Span) (pos i : ℕ) (inv : Rowing s at f n l pos i) where
    pub rows_done : n ≤ i → RowsAt s at f n l pos
    rows_done k = record { same = sym (go _ inv.same); place = inv.place; within = inv.within; stand = record { size = inv.size; stands = let d : i ≡ n = omega (arith, k, inv.few) in rw (← d) inv.stands } }
      where
        go : (x : Paper.Option TakenRows) → lead_rows (lines_at s l i) (take_rows (part (f + i) (n - i)) (from s pos)) ≡ x → some record { rows = lines_at s l n; others = from s pos } ≡ x
        go x g =
            let e : n - i ≡ 0 = omega (arith, k) in
            let d : i ≡ n = omega (arith, k, inv.few) in
            rw (← d) (sym (lead_done (lines_at s l i) (from s pos)) ∙ (rw (e, part_none) at g))

    module _ (b : f + n ≤ 40) (h : i < n) where
      step : lead_rows (lines_at s l i) (take_rows (row_of (code_at (f + i)) ∷ part (f + (i + 1)) (n - (i + 1))) (from s pos)) ≡ take_rows (part f n) (from s at)
      step =
          let u : f + (i + 1) ≡ f + i + 1 = omega arith in
          let v : n - (i + 1) ≡ n - i - 1 = omega arith in
          rw (u, v, ← part_step (f + i) (n - i) _ (row_told (omega arith) refl) (omega arith) (omega arith)) inv.same

      pub rows_stop : NoRow s pos (f + i) → take_rows (part f n) (from s at) ≡ none
      rows_stop w = sym (sym (lead_none (lines_at s l i)) ∙ (rw (w _) at step))

      pub rows_on : (p : Span) (next : ℕ) → RowHolds s pos (f + i) p next → Rowing s at f n (set l i p) next (i + 1)
      rows_on p next w = record {
        few = omega arith;
        place = w.place;
        size = length-set l i p ∙ inv.size;
        same = rw (span_more s l i p (omega (arith, inv.size))) (lead_more _ _ _ ∙ (rw (w.goes _) at step));
        within = within_set s l i p inv.within w.within;
        stands = rw (add-one i, take-suc-set l i p (omega (arith, inv.size))) (stands_more inv.stands w.stands);
      }
