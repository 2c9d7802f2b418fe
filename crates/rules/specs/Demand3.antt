-- Demand 3: "a single claim about the list, not one for each call".
use Rattle.std.specs.Prelude.{◌≡◌, true, false, List, [], ◌∷◌, ℕ, ◌+◌, ◌^◌, ◌<◌, pos, ◌+ℤ◌, take}
use Rattle.std.proofs.Math.Option.{some}
use Rattle.rules.specs.Text.{Rearranged}
use Rattle.rules.specs.Register.{register_of}
use Rattle.rules.specs.Engine.{Engine}
use Rattle.rules.specs.Area.{Result, card_open, card_message, card_turn, holds}
use Rattle.rules.specs.Services.{service_result}
use Rattle.rules.specs.Ledger.{Request, message, turn, service, Event, ledger_of, held, same_entry, is_transfer, is_collection, is_return, is_refund, is_credit, sum_of, since_turn, accepted, untouched_of}

-- a call of the list, and the output area lent to it
pub record Call : Type 0 where
  pub request : Request
  pub output : List ℕ

-- what the call does to its areas
unfoldable pub result : Request → List ℕ → List ℕ → Result
result (message s) area out = card_message s area out
result (turn day) area out = card_turn day area out
result (service v) area out = service_result v area out

-- the calls and their answers, and the area at the end
pub record Ran : Type 0 where
  pub events : List Event
  pub area : List ℕ

-- "the area passed on as the call before left it"; posting lines are "read as the call returns"
unfoldable pub ran : List ℕ → List Call → Ran
ran area [] = record { events = []; area = area }
ran area (c ∷ cs) =
    let r = result c.request area c.output in
    let more = ran r.area cs in
    record {
      events = record { request = c.request; number = r.number; bytes = take r.written r.output } ∷ more.events;
      area = more.area;
    }

-- what demand 3 says of the calls behind an opening with this temporary account
pub record Balanced (temporary : List ℕ) (r : Ran) : Type 0 where
  -- an engine is there
  pub engine : Engine
  pub holding : holds r.area ≡ some engine
  -- "for each bank: transferred + collected = credited + returned + refunded + held"; a bank is the number of eight bytes
  pub balance : (bank : ℕ) → bank < 2 ^ 64
      → pos (sum_of (is_transfer bank) r.events + sum_of (is_collection bank) r.events)
      ≡ pos (sum_of (is_credit temporary bank) r.events + sum_of (is_return bank) r.events + sum_of (is_refund bank) r.events) +ℤ held bank (ledger_of r.events)
  -- "the open positions in the area are exactly that ledger's", "order aside"
  pub positions : Rearranged same_entry engine.positions (ledger_of r.events)
  -- "From each accepted turn until the next accepted message, held is exactly .."
  pub untouched_held : since_turn false r.events ≡ true → (bank : ℕ) → bank < 2 ^ 64
      → held bank (ledger_of r.events) ≡ pos (untouched_of bank (accepted r.events))

-- "After any list of message and turn calls (refused ones included) behind an accepted opening", and whatever services stand among them
abbrev pub Demand3 : Type 0
Demand3 =
    (text list : List ℕ) (day : ℕ) (area : List ℕ) (calls : List Call)
    → (card_open text list day area).number ≡ 0
    → Balanced (register_of text).temporary (ran (card_open text list day area).area calls)
