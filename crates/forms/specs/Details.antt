-- A detail as the code reads it: its rows, then 32B's amount and the dates of 70.
use Rattle.std.specs.Prelude.{◌≡◌, refl, true, List, ℕ, ◌+◌, ◌^◌, ◌≤◌, ◌<◌, length, get_or, take}
use Rattle.std.specs.Prelude.{Option, Some, None, MatchOption}
use Rattle.std.proofs.Math.Option.{none, some}
use Rattle.std.proofs.Common.{arith, length-take, get_or-take}
use Rattle.rules.specs.Lines.{Line}
use Rattle.rules.specs.Forms.{Row, fits_row, take_rows, detail_rows, detail32b, detail_centrb, detail_baeref}
use Rattle.rules.specs.Messages as M
use Rattle.rules.specs.Messages.{line_of, detail_of, take_detail}
use Rattle.laws.specs.Parts.{from}
use Rattle.laws.specs.Tests.{and_left}
use Rattle.laws.specs.Reading.{fits_length}
use Rattle.rule_laws.specs.Messages.{detail_read, row_first, none_row}
use Rattle.lines.specs.declared.reader.LineReader.{LineReader}
use Rattle.forms.specs.Table.{table, part}
use Rattle.forms.specs.Spans.{span_of, no_span, SpansWithin, lines_at, span_line}
use Rattle.forms.specs.Stretches.{RowsStand, stands_long}
use Rattle.forms.specs.Rows.{RowsAt}
use Rattle.forms.specs.Three.{sum_in, date_in, three, three_on}
use Rattle.forms.specs.declared.rows.Span.{Span}
use Rattle.forms.specs.declared.detail.Detail.{Detail}

-- the detail that an answer holds
abbrev pub detail_in : List ℕ → Detail → M.Detail
detail_in s r = record { rows = lines_at s r.spans 17; date = r.date; amount = r.amount }

-- d is the detail that begins at `at`, and the text goes on at `next`
pub record DetailUpTo (s : List ℕ) (at : ℕ) (d : Detail) (next : ℕ) : Type 0 where
  pub same : take_detail (from s at) ≡ some record { detail = detail_in s d; others = from s next }
  pub place : next ≤ length s
  pub within : SpansWithin s d.spans
  pub small : d.amount < 10 ^ 16
  pub stand : RowsStand s at 17 d.spans next

-- d is the detail that begins at `at`
pub record DetailAt (s : List ℕ) (at : ℕ) (d : Detail) : Type 0 where
  pub next : ℕ
  pub up_to : DetailUpTo s at d next

pub detail_there : {s : List ℕ} {at : ℕ} {d : Detail} {next : ℕ} → DetailUpTo s at d next → DetailAt s at d
detail_there {next = next} w = record { next = next; up_to = w }

-- what is read off a reader as a detail
pub record DetailTaken (old new : LineReader) (r : Option Detail) : Type 0 where
  pub text : new.text ≡ old.text
  pub taken : MatchOption r (take_detail (from old.text.now old.at) ≡ none) (λ d. DetailUpTo old.text.now old.at d new.at)

-- by the text that the reader is over
module _ (s : List ℕ) (old new : LineReader) (o : old.text.now ≡ s) where
  pub detail_none_taken : DetailTaken old new None → take_detail (from s old.at) ≡ none
  detail_none_taken w = rw o at w.taken

  pub detail_taken : (d : Detail) → DetailTaken old new (Some d) → DetailUpTo s old.at d new.at
  detail_taken d w = rw o at w.taken

detail_rows_lem : part 23 17 ≡ detail_rows
unfolding part table
detail_rows_lem = refl

-- no rows, no detail
pub no_detail_rows : (s : List ℕ) (at : ℕ) → take_rows (part 23 17) (from s at) ≡ none → take_detail (from s at) ≡ none
unfolding take_detail
no_detail_rows s at h = let e : take_rows detail_rows (from s at) ≡ none = rw detail_rows_lem at h in rw e

module _ (s : List ℕ) (at next : ℕ) (l : List Span) (w : RowsAt s at 23 17 l next) where
  pub detail_three : take_detail (from s at) ≡ three
      (λ a d b. record { detail = record { rows = lines_at s l 17; date = d; amount = a }; others = from s next })
      (sum_in s l detail32b 8)
      (date_in s l detail_centrb 10)
      (date_in s l detail_baeref 6)
  unfolding take_detail detail_of three
  detail_three =
      let e : take_rows detail_rows (from s at) ≡ some record { rows = lines_at s l 17; others = from s next } = rw detail_rows_lem at w.same in
      rw (e, span_line s l 17 detail32b (omega arith), span_line s l 17 detail_centrb (omega arith), span_line s l 17 detail_baeref (omega arith))
      (three_on (λ d. record { detail = d; others = from s next }) (λ a d b. record { rows = lines_at s l 17; date = d; amount = a }) (sum_in s l detail32b 8) (date_in s l detail_centrb 10) (date_in s l detail_baeref 6))

-- ---- a detail takes more than the tag of its field 21

fits_head : (r : Row) (l : Line) → fits_row r l ≡ true → length r.head ≤ length l
unfolding fits_row
fits_head r l h = omega (arith, fits_length r.head (take (length r.head) l) (and_left _ _ h), length-take (length r.head) l)

pub detail_long : (s : List ℕ) (at : ℕ) (d : Detail) {next : ℕ} → DetailUpTo s at d next → at + 4 ≤ next
detail_long s at d w =
    let f : fits_row (get_or detail_rows 0 none_row) (line_of (lines_at s d.spans 17) 0) ≡ true = row_first refl (detail_read (from s at) _ w.same).rows in
    let l : 4 ≤ length (line_of (lines_at s d.spans 17) 0) = fits_head (get_or detail_rows 0 none_row) _ f in
    let m : 4 ≤ length (span_of s (get_or (take 17 d.spans) 0 no_span)) = rw (get_or-take 17 d.spans 0 no_span (omega arith)) (rw (span_line s d.spans 17 0 (omega arith)) at l) in
    omega (arith, stands_long w.stand.stands (omega arith))
