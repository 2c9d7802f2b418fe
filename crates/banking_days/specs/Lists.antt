-- What the functions on a holiday list answer: that its dates rise, that a day is one of them, that it is a banking day.
use Rattle.std.specs.Prelude.{◌≡◌, Bool, true, false, cond, List, ◌∷◌, ℕ, zero, suc, ◌+◌, ◌-◌, ◌/◌, length, take, drop}
use Rattle.rules.specs.Text.{equal, is_some, read_each, ordered}
use Rattle.rules.specs.Dates.{date}
use Rattle.rules.specs.Lines.{parted}
use Rattle.rules.specs.BankingDays.{earlier_date, holidays, holidays_of, is_listed, is_banking_day}
use Rattle.rules.specs.Calls.{holds_of}
use Rattle.laws.specs.Parts.{from}

-- the dates of a text are there, each later than the last, and the first later than one
unfoldable pub rising : ℕ → List ℕ → Bool
rising last cs = holds_of (λ ds. ordered earlier_date (last ∷ ds)) (read_each date (parted cs))

-- six bytes are one of the first k dates of a text
unfoldable pub among : List ℕ → ℕ → List ℕ → Bool
among six zero cs = false
among six (suc k) cs = let r = among six k (drop 7 cs) in cond (equal (take 6 cs) six) true r

-- they are one of the dates from a place of a list on, as many as it has room for
unfoldable pub stands_from : List ℕ → List ℕ → ℕ → Bool
stands_from six list at = among six ((length list + 1 - at) / 7) (from list at)

-- r tells whether a day is one of the dates of a list that passes
pub record Listed (list : List ℕ) (day : ℕ) (r : Bool) : Type 0 where
  pub same : is_some (holidays list) ≡ true → r ≡ is_listed (holidays_of list) day

-- r tells whether it is a banking day
pub record Banking (list : List ℕ) (day : ℕ) (r : Bool) : Type 0 where
  pub same : is_some (holidays list) ≡ true → r ≡ is_banking_day (holidays_of list) day
