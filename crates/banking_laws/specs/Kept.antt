-- Banking days, over any list of calls behind an accepted opening: by induction on the list, since 17 lets no other day pass.
use Rattle.std.specs.Prelude.{◌≡◌, Bool, cond, ℕ}
use Rattle.std.proofs.Math.Path.{refl}
use Rattle.std.proofs.Math.Bool.{true, false}
use mathlib.Core.List.{List, [], ◌∷◌, ◌++◌, append-nil}
use Rattle.std.proofs.Math.Option.{some}
use Rattle.rules.specs.Text.{any, fixed}
use Rattle.rules.specs.Dates.{exists, date}
use Rattle.rules.specs.Lines.{lines}
use Rattle.rules.specs.BankingDays.{holidays_of, is_banking_day}
use Rattle.rules.specs.Engine.{Engine}
use Rattle.rules.specs.Calls.{holds_of, opened, after_message, after_turn, turn_text}
use Rattle.rules.specs.Area.{Result, card_open, card_message, card_turn, holds}
use Rattle.rules.specs.Services.{Service, service_result}
use Rattle.rules.specs.Ledger.{Request, message, turn, service, Event, is_turn}
use Rattle.rules.specs.Demand3.{Call, result, Ran, ran}
use Rattle.rules.specs.OnBankingDays.{line_dates, turn_dates, is_closed, BankingDaysKept}
use Rattle.laws.specs.Digits.{places_length}
use Rattle.laws.specs.Numbers.{digits_fixed}
use Rattle.laws.specs.All.{All.none, All.more}
use Rattle.rule_laws.specs.Dates.{date_small}
use Rattle.rule_laws.specs.Lines.{lined_lines}
use Rattle.engine_laws.specs.Limits.{limits}
use Rattle.engine_laws.specs.EngineIn.{engine_in}
use Rattle.engine_laws.specs.Calls.{Stays, by_number, Opens, open_accepted, done_holds, done_text, Takes, message_accepted, message_ends, Turns, turn_accepted, turn_ends}
use Rattle.balance_laws.specs.Services.{uncounted}
use Rattle.balance_laws.specs.Running.{event}
use Rattle.balance_laws.specs.Corrections.{AllOf, Dated}
use Rattle.banking_laws.specs.Turns.{turn_dated}

-- ---- dates that are not closed

day_read : (day : ℕ) → exists day ≡ true → date (fixed 6 day) ≡ some day
unfolding date
day_read day x = rw (places_length 10 48 6 day, digits_fixed 6 day (date_small day x), x)

-- a banking day, however often
none_closed : (ds : List ℕ) (day : ℕ) → exists day ≡ true → is_banking_day ds day ≡ true → {cs : List (List ℕ)} → AllOf day cs → any (is_closed ds) cs ≡ false
unfolding any is_closed holds_of
none_closed ds day x b none = refl
none_closed ds day x b (more e s) = rw (e, day_read day x, b) (none_closed ds day x b s)

-- none of two lists
none_join : {A : Type 0} (p : A → Bool) (xs ys : List A) → any p xs ≡ false → any p ys ≡ false → any p (xs ++ ys) ≡ false
unfolding any
none_join p [] ys h k = k
none_join p (x ∷ xs) ys h k = go (p x) h (none_join p xs ys)
  where
    go : (t : Bool) → cond t true (any p xs) ≡ false → (any p xs ≡ false → any p ys ≡ false → any p (xs ++ ys) ≡ false) → cond t true (any p (xs ++ ys)) ≡ false
    go true e f = e
    go false e f = f e k

-- ---- one call

-- the card between calls: an engine with this holiday list, on a banking day
record Open (list area : List ℕ) : Type 0 where
  engine : Engine
  holding : holds area ≡ some engine
  listed : engine.holidays ≡ list
  today : is_banking_day (holidays_of list) engine.day ≡ true

-- what a call leaves and writes
record Stepped (list : List ℕ) (e : Event) (area : List ℕ) : Type 0 where
  next : Open list area
  written : any (is_closed (holidays_of list)) (turn_dates (e ∷ [])) ≡ false

module _ (list area : List ℕ) (w : Open list area) where
  -- refused: nothing is written
  step_refused : (f : Request) (out : List ℕ) (r : Result) → Stays r area out → Stepped list (event f r) r.area
  unfolding event turn_dates lines line_dates any
  step_refused f out r s = record { next = rw s.area w; written = rw s.written (go (is_turn f)) }
    where
      go : (t : Bool) → any (is_closed (holidays_of list)) (cond t [] [] ++ []) ≡ false
      go true = refl
      go false = refl

  -- an accepted message writes for no turn, and leaves day and list
  step_message : (s out : List ℕ) → (card_message s area out).number ≡ 0 → Stepped list (event (message s) (card_message s area out)) (card_message s area out).area
  unfolding event turn_dates is_turn any after_message
  step_message s out a =
      let t : Takes s area out w.engine = message_accepted s area out w.engine w.holding a in
      record {
        next = record { engine = after_message w.engine t.message; holding = done_holds t.done; listed = w.listed; today = w.today };
        written = refl;
      }

  -- an accepted turn goes to a banking day, and that is what its text is dated with
  step_turn : (day : ℕ) (out : List ℕ) → (card_turn day area out).number ≡ 0 → Stepped list (event (turn day) (card_turn day area out)) (card_turn day area out).area
  unfolding event turn_dates is_turn after_turn any
  step_turn day out a =
      let e : Engine = w.engine in
      let t : Turns day area out e = turn_accepted day area out e w.holding a in
      let b : is_banking_day (holidays_of list) day ≡ true = rw w.listed at t.clear.banking in
      let d : Dated day (turn_text e day) = turn_dated e (limits e (engine_in area e w.holding).good) day in
      record {
        next = record { engine = after_turn e day; holding = done_holds t.done; listed = w.listed; today = b };
        written = rw (done_text t.done, lined_lines d.reading) (none_join (is_closed (holidays_of list)) (line_dates d.all) [] (none_closed (holidays_of list) day t.clear.date b d.dates) refl);
      }

  -- a call that changes no engine writes for no turn
  step_service : (v : Service) (out : List ℕ) → Stepped list (event (service v) (service_result v area out)) (service_result v area out).area
  unfolding event turn_dates is_turn any
  step_service v out = record { next = rw (uncounted v area out).area w; written = refl }

  -- any call
  stepped : (f : Request) (out : List ℕ) → Stepped list (event f (result f area out)) (result f area out).area
  unfolding result
  stepped (message s) out = by_number (message_ends s area out) (step_message s out) (λ n. step_refused (message s) out _)
  stepped (turn day) out = by_number (turn_ends day area out) (step_turn day out) (λ n. step_refused (turn day) out _)
  stepped (service v) out = step_service v out

-- ---- any list of calls

record Ended (list : List ℕ) (r : Ran) : Type 0 where
  end : Open list r.area
  written : any (is_closed (holidays_of list)) (turn_dates r.events) ≡ false

dates_next : (e : Event) (es : List Event) → turn_dates (e ∷ es) ≡ turn_dates (e ∷ []) ++ turn_dates es
unfolding turn_dates
dates_next e es = rw append-nil

ended : (list area : List ℕ) (cs : List Call) → Open list area → Ended list (ran area cs)
unfolding ran event turn_dates any
ended list area [] w = record { end = w; written = refl }
ended list area (c ∷ cs) w =
    let r : Result = result c.request area c.output in
    let s : Stepped list (event c.request r) r.area = stepped list area w c.request c.output in
    let more : Ended list (ran r.area cs) = ended list r.area cs s.next in
    let es : List Event = (ran r.area cs).events in
    record {
      end = more.end;
      written = rw (dates_next (event c.request r) es) (none_join (is_closed (holidays_of list)) (turn_dates (event c.request r ∷ [])) (turn_dates es) s.written more.written);
    }

pub banking_days_kept : BankingDaysKept
unfolding opened
banking_days_kept text list day area calls h =
    let o : Opens text list day area = open_accepted text list day area h in
    let w : Open list (card_open text list day area).area = record { engine = opened text list day; holding = done_holds o.done; listed = refl; today = o.clear.banking } in
    let z : Ended list (ran (card_open text list day area).area calls) = ended list _ calls w in
    record { engine = z.end.engine; holding = z.end.holding; today = z.end.today; written = z.written }
