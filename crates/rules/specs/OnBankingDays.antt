-- Document 02, CR 2: no "corrections dated on a closed day", a claim about any list of calls behind an accepted opening.
use Rattle.std.specs.Prelude.{◌≡◌, Bool, false, true, not, cond, List, [], ◌∷◌, ◌++◌, ℕ, length, take, drop}
use Rattle.std.proofs.Math.Option.{Option, none, some}
use Prim.Native.String.{String}
use Rattle.rules.specs.Text.{ascii, equal, any}
use Rattle.rules.specs.Dates.{date}
use Rattle.rules.specs.Lines.{Line}
use Rattle.rules.specs.BankingDays.{holidays_of, is_banking_day}
use Rattle.rules.specs.Engine.{Engine}
use Rattle.rules.specs.Calls.{holds_of}
use Rattle.rules.specs.Area.{card_open, holds}
use Rattle.rules.specs.Ledger.{Posted, posted, Event, lines_of, is_turn}
use Rattle.rules.specs.Demand3.{Call, Ran, ran}

-- ---- what a turn's lines are dated with; a centralisation date is none of these

-- the day of a posting line
unfoldable pub posting_dates : Option Posted → List (List ℕ)
posting_dates none = []
posting_dates (some q) = q.day ∷ []

-- six digits behind the beginning of a line
unfoldable pub dated_behind : String → Line → List (List ℕ)
dated_behind tag l = let n = length (ascii tag) in cond (equal (take n l) (ascii tag)) (take 6 (drop n l) ∷ []) []

-- a correction's references (20, 21), its day (30 or 32A) and its number in 72
unfoldable pub field_dates : Line → List (List ℕ)
field_dates l = dated_behind ":20:" l ++ dated_behind ":21:" l ++ dated_behind ":30:" l ++ dated_behind ":32A:" l ++ dated_behind ":72:/BAEREF/" l

-- those of some lines
unfoldable pub line_dates : List Line → List (List ℕ)
line_dates [] = []
line_dates (l ∷ ls) = posting_dates (posted l) ++ field_dates l ++ line_dates ls

-- "every posting line and correction that a turn writes"
unfoldable pub turn_dates : List Event → List (List ℕ)
turn_dates [] = []
turn_dates (e ∷ es) = cond (is_turn e.request) (line_dates (lines_of e)) [] ++ turn_dates es

-- no date of a banking day
unfoldable pub is_closed : List ℕ → List ℕ → Bool
is_closed ds cs = not (holds_of (is_banking_day ds) (date cs))

-- ---- the claim

-- what holds of the calls behind an opening with these holidays
pub record OnBankingDays (ds : List ℕ) (r : Ran) : Type 0 where
  -- an engine is there, and its day is a banking day
  pub engine : Engine
  pub holding : holds r.area ≡ some engine
  pub today : is_banking_day ds engine.day ≡ true
  -- so is every date of what the turns wrote
  pub written : any (is_closed ds) (turn_dates r.events) ≡ false

-- after any list of message and turn calls, refused ones included, behind an accepted opening, and whatever services stand among them
abbrev pub BankingDaysKept : Type 0
BankingDaysKept =
    (text list : List ℕ) (day : ℕ) (area : List ℕ) (calls : List Call)
    → (card_open text list day area).number ≡ 0
    → OnBankingDays (holidays_of list) (ran (card_open text list day area).area calls)
