-- The conditions in their order, as the code asks them, and that they are document 01's.
use Rattle.std.specs.Prelude.{◌≡◌, refl, Bool, true, false, ◌||◌, not, cond, List, ℕ, eqb, get_or, take, Result, Ok, Err}
use Rattle.std.proofs.Math.Option.{some}
use Rattle.std.proofs.Common.{arith, eq-eqb, ne_eqb}
use Rattle.rules.specs.Text.{equal, any, twice}
use Rattle.rules.specs.Lines.{sender}
use Rattle.rules.specs.Engine.{slashed}
use Rattle.rules.specs.Forms.{message20, transfer32a, transfer59, detail21, detail32b, detail50h}
use Rattle.rules.specs.Messages as M
use Rattle.rules.specs.Messages.{mt103, field20, account103, field21, currency32b, reference_of, details_of, past}
use Rattle.rules.specs.Calls.{form_stops, first_of, holds_of, bad_reference, bad_sum, bad_amount, foreign_payer, bad_account, many_dates}
use Rattle.refusal.specs.Numbers.{number_of}
use Rattle.refusal.specs.declared.Refusal.{Refusal}
use Rattle.forms.specs.Spans.{span_of, no_span, within_at, span_line}
use Rattle.forms.specs.Details.{detail_in}
use Rattle.forms.specs.Transfers.{transfer_in}
use Rattle.forms.specs.declared.rows.Span.{Span}
use Rattle.forms.specs.declared.detail.Detail.{Detail}
use Rattle.forms.specs.declared.transfer.Transfer.{Transfer}
use Rattle.field_conditions.specs.Fields.{foreign}

-- ---- a number picked by a test, as a call answered it

module _ (b t : Bool) (x y r : ℕ) (u : t ≡ b) where
  pub pick_holds : t ≡ true → r ≡ x → r ≡ cond b x y
  pick_holds h e = rw (← u, h) e

  pub pick_missed : t ≡ false → r ≡ y → r ≡ cond b x y
  pick_missed h e = rw (← u, h) e

module _ (a b x y r : ℕ) where
  pub pick_apart : (a ≡ b → ⊥) → r ≡ x → r ≡ cond (not (eqb a b)) x y
  pick_apart h e = rw (ne_eqb a b h) e

  pub pick_alike : a ≡ b → r ≡ y → r ≡ cond (not (eqb a b)) x y
  pick_alike h e = rw (eq-eqb a b h) e

-- ---- a transfer

-- a row's line
abbrev line_in : List ℕ → List Span → ℕ → List ℕ
line_in s l k = span_of s (get_or l k no_span)

-- 5, 6 and 7 of a transfer
abbrev pub transfer_stop : List ℕ → List ℕ → Transfer → ℕ
transfer_stop s temporary t =
    cond (slashed (past ":20:" (line_in s t.spans message20))) 5
    (cond (bad_sum (take 3 (past ":32A:nnnnnn" (line_in s t.spans transfer32a))) t.amount) 6
    (cond (equal (past ":59:/" (line_in s t.spans transfer59)) temporary) 0 7))

or_nothing : (b : Bool) → (b || false || false) ≡ b
or_nothing true = refl
or_nothing false = refl

not_picks : (b : Bool) → cond {A = ℕ} (not b) 7 0 ≡ cond b 0 7
not_picks true = refl
not_picks false = refl

-- they are the message's: it has no details
pub transfer_stops : (s temporary : List ℕ) (t : Transfer) → transfer_stop s temporary t ≡ first_of (form_stops temporary (some (mt103 (transfer_in s t))))
unfolding form_stops first_of holds_of bad_reference bad_amount bad_account many_dates reference_of details_of any twice
transfer_stops s temporary t =
    rw (or_nothing (slashed (field20 (transfer_in s t).rows)), not_picks (equal (account103 (transfer_in s t).rows) temporary), span_line s t.spans 23 message20 (omega arith), span_line s t.spans 23 transfer32a (omega arith), span_line s t.spans 23 transfer59 (omega arith))

-- ---- a detail

-- above all conditions of refusal: none holds
abbrev pub no_stop : ℕ
no_stop = 20

-- the number of what refuses a detail, and `no_stop` where nothing does
abbrev pub low_of : {A : Type 0} → Result A Refusal → ℕ
low_of (Ok v) = no_stop
low_of (Err r) = number_of r

-- 5 to 8 of one detail of a bank, day being the date of the first; `no_stop` where none holds
unfoldable pub lowest : List ℕ → ℕ → M.Detail → ℕ
lowest bank day d =
    cond (slashed (field21 d)) 5
    (cond (bad_sum (currency32b d) d.amount) 6
    (cond (foreign_payer bank d) 7
    (cond (not (eqb d.date day)) 8 no_stop)))

abbrev pub detail_stop : List ℕ → ℕ → Detail → ℕ
detail_stop s day d =
    cond (slashed (past ":21:" (line_in s d.spans detail21))) 5
    (cond (bad_sum (take 3 (past ":32B:" (line_in s d.spans detail32b))) d.amount) 6
    (cond (foreign (sender s) (line_in s d.spans detail50h)) 7
    (cond (not (eqb d.date day)) 8 no_stop)))

pub detail_lowest : (s : List ℕ) (day : ℕ) (d : Detail) → detail_stop s day d ≡ lowest (sender s) day (detail_in s d)
unfolding lowest foreign foreign_payer
detail_lowest s day d = rw (span_line s d.spans 17 detail21 (omega arith), span_line s d.spans 17 detail32b (omega arith), span_line s d.spans 17 detail50h (omega arith))

pub ruleset stopping = (within_at, pick_holds, pick_missed, pick_apart, pick_alike)
