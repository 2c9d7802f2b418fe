-- The rows of the details that the MT199 lists, as the code's loop writes them. What is left of the walk gives the answer.
use Rattle.std.specs.Prelude.{◌≡◌, refl, Bool, true, false, List, [], ◌∷◌, ◌++◌, ℕ, zero, suc, ◌+◌, ◌-◌, ◌≤◌, ◌<◌, length, get_or, take, drop}
use Rattle.std.proofs.Common.{sym, ap, ◌∙◌, arith}
use Rattle.std.proofs.Math.Seq.{take-nil}
use Rattle.std.proofs.lemmas.List.{get_or_default}
use Rattle.rules.specs.Messages.{Detail}
use Rattle.rules.specs.Forms.{detail50h, detail52d, detail59, detail_baeref}
use Rattle.rule_laws.specs.Messages.{DetailRead}
use Rattle.rules.specs.Verdict.{is_listed199}
use Rattle.rules.specs.Written.{listed_rows, all_listed}
use Rattle.laws.specs.Writing.{furthest}
use Rattle.put.specs.declared.parts.Writer.{Writer}
use Rattle.put.specs.Writes.{Writes, Unwritten, unwritten_all, unwritten_turn, unwritten_none}
use Rattle.details.specs.Message.{details_in, detail_at}
use Rattle.details.specs.Kept.{LineOf, RowsOf}
use Rattle.details.specs.declared.kept.Kept.{Kept}
use Rattle.verdict.specs.Details.{KeptIn, no_judged, judged_at}
use Rattle.verdict.specs.declared.detail.Judged.{Judged}
use Rattle.forms.specs.Spans.{span_of, SpanIn}
use Rattle.detail_lines.specs.Rows.{rows_of, rows_kept}
use Rattle.detail_lines.specs.Chosen.{tells, chosen_from, none_chosen, chosen_one, chosen_none}

-- the lines of a detail that its rows show are kept
pub record LinesOf (s : List ℕ) (d : Detail) (k : Kept) : Type 0 where
  pub read : DetailRead d
  pub branch : RowsOf s d detail52d 2 k.branch
  pub account : LineOf s d detail59 k.account
  pub baeref : LineOf s d detail_baeref k.baeref

-- those of each detail of a message are
pub record LinesIn (s : List ℕ) (kept : List Judged) : Type 0 where
  pub count : length kept ≡ length (details_in s)
  pub each : (i : ℕ) → i < length kept → LinesOf s (detail_at (details_in s) i) (judged_at kept i).detail

pub lines_kept : (s : List ℕ) (kept : List Judged) → KeptIn s kept → LinesIn s kept
lines_kept s kept k = record {
  count = k.count;
  each = λ i h. let o = k.each i h in record { read = o.read; branch = o.branch; account = o.account; baeref = o.baeref };
}

-- each, read with any value behind the last
lines_at : (s : List ℕ) (kept : List Judged) → LinesIn s kept → (i : ℕ) → i < length kept → (other : Judged) → LinesOf s (detail_at (details_in s) i) (get_or kept i other).detail
lines_at s kept k i h other = rw (get_or_default kept i no_judged other h) at (k.each i h)

-- ---- the rows of the first `most` of them, and what is behind those

-- they were written, and those from detail r on are left
pub record RowsPut (s : List ℕ) (kept : List Judged) (first most : ℕ) (old : Writer) (r : ℕ) (new : Writer) : Type 0 where
  pub writes : Writes (all_listed (take most (chosen_from is_listed199 s kept first))) old new
  pub within : r ≤ length kept
  pub skipped : chosen_from is_listed199 s kept r ≡ drop most (chosen_from is_listed199 s kept first)

-- m of them at most are still to be written, from detail i on
pub record RowsLeft (s : List ℕ) (kept : List Judged) (first most : ℕ) (start : Writer) (i m : ℕ) (w : Writer) : Type 0 where
  pub unwritten : Unwritten (all_listed (take m (chosen_from is_listed199 s kept i))) w (all_listed (take most (chosen_from is_listed199 s kept first))) start
  pub behind : drop m (chosen_from is_listed199 s kept i) ≡ drop most (chosen_from is_listed199 s kept first)

pub rows_start : (s : List ℕ) (kept : List Judged) (first most : ℕ) (start : Writer) → length start.out.now ≤ furthest → RowsLeft s kept first most start first most start
rows_start s kept first most start h = record { unwritten = unwritten_all _ h; behind = refl }

drop_none : {A : Type 0} (i : ℕ) → ◌≡◌ {A = List A} (drop i []) []
drop_none zero = refl
drop_none (suc i) = refl

drop_one : {A : Type 0} (x : A) (xs : List A) (i : ℕ) → (i ≡ 0 → ⊥) → drop i (x ∷ xs) ≡ drop (i - 1) xs
drop_one x xs zero h = absurd (h refl)
drop_one x xs (suc i) h = let e : suc i - 1 ≡ i = omega arith in rw e

take_one : {A : Type 0} (x : A) (xs : List A) (m : ℕ) → (m ≡ 0 → ⊥) → take m (x ∷ xs) ≡ x ∷ take (m - 1) xs
take_one x xs zero h = absurd (h refl)
take_one x xs (suc m) h = let e : suc m - 1 ≡ m = omega arith in rw e

-- m of them at most, from detail i on, within any text
module _ (s : List ℕ) (kept : List Judged) (i m : ℕ) {whole : List ℕ} {start w : Writer} (l : Unwritten (all_listed (take m (chosen_from is_listed199 s kept i))) w whole start) where
  none_due : take m (chosen_from is_listed199 s kept i) ≡ [] → Writes whole start w
  unfolding all_listed
  none_due e = unwritten_none (rw e at l)

  pub listed_full : m ≡ 0 → Writes whole start w
  listed_full e = none_due (rw e)

  pub listed_end : length kept ≤ i → Writes whole start w
  listed_end h = none_due (rw (none_chosen is_listed199 s kept i h) (take-nil m))

  module _ (k : LinesIn s kept) (h : i < length kept) (j : Judged) (b : Bool) (u : b ≡ tells is_listed199 (get_or kept i j)) where
    its : LinesOf s (detail_at (details_in s) i) (get_or kept i j).detail
    its = lines_at s kept k i h j

    rows_step : b ≡ true → (m ≡ 0 → ⊥) → all_listed (take m (chosen_from is_listed199 s kept i)) ≡ listed_rows (detail_at (details_in s) i) ++ all_listed (take (m - 1) (chosen_from is_listed199 s kept (i + 1)))
    unfolding all_listed
    rows_step d z = rw (chosen_one is_listed199 s kept k.count i h j b u d, take_one (detail_at (details_in s) i) (chosen_from is_listed199 s kept (i + 1)) m z)

    pub listed_more : b ≡ true → (m ≡ 0 → ⊥) → {w' : Writer} → Writes (rows_of (span_of s (get_or kept i j).detail.branch) (span_of s (get_or kept i j).detail.account) (span_of s (get_or kept i j).detail.baeref)) w w'
        → Unwritten (all_listed (take (m - 1) (chosen_from is_listed199 s kept (i + 1)))) w' whole start
    listed_more d z v = unwritten_turn (rw (rows_step d z) at l) (rw (rows_kept s (detail_at (details_in s) i) _ _ _ its.read its.branch its.account its.baeref) at v)

    pub listed_pass : b ≡ false → Unwritten (all_listed (take m (chosen_from is_listed199 s kept (i + 1)))) w whole start
    listed_pass d = rw (chosen_none is_listed199 s kept k.count i h j b u d) at l

module _ (s : List ℕ) (kept : List Judged) (k : LinesIn s kept) {first most : ℕ} {start : Writer} {i m : ℕ} {w : Writer} (l : RowsLeft s kept first most start i m w) where
  -- none is to be written
  pub rows_full : m ≡ 0 → i ≤ length kept → RowsPut s kept first most start i w
  rows_full e h = record { writes = listed_full s kept i m l.unwritten e; within = h; skipped = rw e at l.behind }

  -- none is left
  pub rows_end : length kept ≤ i → RowsPut s kept first most start (length kept) w
  rows_end h = record {
    writes = listed_end s kept i m l.unwritten h;
    within = omega arith;
    skipped = none_chosen is_listed199 s kept (length kept) (omega arith) ∙ sym (drop_none m) ∙ (rw (none_chosen is_listed199 s kept i h) at l.behind);
  }

  module _ (h : i < length kept) (j : Judged) (b : Bool) (u : b ≡ tells is_listed199 (get_or kept i j)) where
    one : b ≡ true → chosen_from is_listed199 s kept i ≡ detail_at (details_in s) i ∷ chosen_from is_listed199 s kept (i + 1)
    one d = chosen_one is_listed199 s kept k.count i h j b u d

    pub rows_more : b ≡ true → (m ≡ 0 → ⊥) → {w' : Writer} → Writes (rows_of (span_of s (get_or kept i j).detail.branch) (span_of s (get_or kept i j).detail.account) (span_of s (get_or kept i j).detail.baeref)) w w' → RowsLeft s kept first most start (i + 1) (m - 1) w'
    rows_more d z v = record {
      unwritten = listed_more s kept i m l.unwritten k h j b u d z v;
      behind = sym (drop_one (detail_at (details_in s) i) (chosen_from is_listed199 s kept (i + 1)) m z) ∙ ap (λ (ds : List Detail). drop m ds) (sym (one d)) ∙ l.behind;
    }

    pub rows_pass : b ≡ false → RowsLeft s kept first most start (i + 1) m w
    rows_pass d = record { unwritten = listed_pass s kept i m l.unwritten k h j b u d; behind = rw (chosen_none is_listed199 s kept k.count i h j b u d) at l.behind }

-- the lines of a detail that is kept lie within the message
module _ (s : List ℕ) (kept : List Judged) (k : LinesIn s kept) (i : ℕ) (h : i < length kept) (j : Judged) where
  pub branch_in : SpanIn s (get_or kept i j).detail.branch
  branch_in = (lines_at s kept k i h j).branch.inside

  pub account_in_lem : SpanIn s (get_or kept i j).detail.account
  account_in_lem = (lines_at s kept k i h j).account.inside

  pub baeref_in : SpanIn s (get_or kept i j).detail.baeref
  baeref_in = (lines_at s kept k i h j).baeref.inside

-- so does the payer's field, by that field alone
pub payer_inside : (s : List ℕ) (kept : List Judged) → ((i : ℕ) → i < length kept → RowsOf s (detail_at (details_in s) i) detail50h 4 (judged_at kept i).detail.payer) → (i : ℕ) → i < length kept → (j : Judged) → SpanIn s (get_or kept i j).detail.payer
payer_inside s kept f i h j = (rw (get_or_default kept i no_judged j h) at (f i h)).inside

pub payer_in : (s : List ℕ) (kept : List Judged) → KeptIn s kept → (i : ℕ) → i < length kept → (j : Judged) → SpanIn s (get_or kept i j).detail.payer
payer_in s kept k = payer_inside s kept (λ i h. (k.each i h).payer)

pub ruleset listing = (lines_kept, branch_in, account_in_lem, baeref_in, rows_start, rows_full, rows_end, rows_more, rows_pass)
