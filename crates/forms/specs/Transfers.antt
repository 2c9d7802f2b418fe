-- An MT103 as the code reads it: its rows, the closing line, then 32A's date and amount and BAEREF's date.
use Rattle.std.specs.Prelude.{◌≡◌, refl, Bool, true, false, List, ℕ, ◌^◌, ◌<◌}
use Rattle.std.proofs.Math.Option.{Option, none, some}
use Rattle.std.proofs.Common.{arith}
use Rattle.rules.specs.Text.{then, given}
use Rattle.rules.specs.Lines.{is_closing_line, sender, body}
use Rattle.rules.specs.Forms.{take_rows, transfer_rows, transfer32a, transfer_baeref}
use Rattle.rules.specs.Messages as M
use Rattle.rules.specs.Messages.{mt103, transfer_of, read_transfer}
use Rattle.laws.specs.Parts.{from}
use Rattle.rule_laws.specs.Lines.{body_from}
use Rattle.forms.specs.Table.{table, part}
use Rattle.forms.specs.Spans.{SpansWithin, lines_at, span_line}
use Rattle.forms.specs.Rows.{RowsAt}
use Rattle.forms.specs.Three.{sum_in, date_in, three, three_on}
use Rattle.forms.specs.declared.rows.Span.{Span}
use Rattle.forms.specs.declared.transfer.Transfer.{Transfer}

-- the transfer that an answer holds
abbrev pub transfer_in : List ℕ → Transfer → M.Transfer
transfer_in s r = record { sender = sender s; rows = lines_at s r.spans 23; date = r.date; amount = r.amount }

-- t is the message's
pub record TransferIn (s : List ℕ) (t : Transfer) : Type 0 where
  pub same : read_transfer s ≡ some (mt103 (transfer_in s t))
  pub within : SpansWithin s t.spans
  pub small : t.amount < 10 ^ 16

transfer_rows_lem : part 0 23 ≡ transfer_rows
unfolding part table
transfer_rows_lem = refl

given_none : {A B : Type 0} (f : A → B) (o : Option A) → then o (λ a. given false (f a)) ≡ none
given_none f none = refl
given_none f (some a) = refl

-- no rows, no transfer
pub no_transfer_rows : (s : List ℕ) → take_rows (part 0 23) (from s 23) ≡ none → read_transfer s ≡ none
unfolding read_transfer
no_transfer_rows s h = let e : take_rows transfer_rows (body s) ≡ none = rw (transfer_rows_lem, body_from) at h in rw e

module _ (s : List ℕ) (l : List Span) (next : ℕ) (w : RowsAt s 23 0 23 l next) (t : Bool) (u : t ≡ is_closing_line (from s next)) where
  rows_known : take_rows transfer_rows (body s) ≡ some record { rows = lines_at s l 23; others = from s next }
  rows_known = rw (transfer_rows_lem, body_from) at w.same

  pub transfer_open : t ≡ false → read_transfer s ≡ none
  unfolding read_transfer
  transfer_open d = rw (rows_known, ← u, d) (given_none mt103 (transfer_of (sender s) (lines_at s l 23)))

  pub transfer_three : t ≡ true → read_transfer s ≡ three
      (λ d a b. mt103 record { sender = sender s; rows = lines_at s l 23; date = d; amount = a })
      (date_in s l transfer32a 5)
      (sum_in s l transfer32a 14)
      (date_in s l transfer_baeref 8)
  unfolding read_transfer transfer_of three
  transfer_three d =
      rw (rows_known, ← u, d, span_line s l 23 transfer32a (omega arith), span_line s l 23 transfer_baeref (omega arith))
      (three_on mt103 (λ d a b. record { sender = sender s; rows = lines_at s l 23; date = d; amount = a }) (date_in s l transfer32a 5) (sum_in s l transfer32a 14) (date_in s l transfer_baeref 8))
