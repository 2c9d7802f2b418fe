-- What an accepted call tells of its conditions: none of them holds, each read by its number.
use Rattle.std.specs.Prelude.{◌≡◌, true, false, List, ℕ, ◌≤◌, ◌<◌, length}
use Rattle.std.proofs.Math.Path.{refl}
use Rattle.std.proofs.Math.Option.{Option, some}
use borrow.Author.Tests.{leb-true, leb-false, not-false}
use Rattle.rules.specs.Text.{is_some, any}
use Rattle.rules.specs.Dates.{exists}
use Rattle.rules.specs.Lines.{framed}
use Rattle.rules.specs.Messages.{Message, read, details_of}
use Rattle.rules.specs.BankingDays.{holidays, holidays_of, is_banking_day}
use Rattle.rules.specs.Register.{register, register_of}
use Rattle.rules.specs.Engine.{Engine, same_reference}
use Rattle.rules.specs.Calls.{Stop, first_of, holds_of, open_stops, addressed, bad_reference, bad_amount, bad_account, many_dates, misdated, own_reference, no_room, over_limit, message_text, form_stops, input_stops, limit_stops, room_stops, state_stops, message_stops, turn_text, turn_stops}
use Rattle.rules.specs.Area.{area_size}
use Rattle.rule_laws.specs.Conditions.{numbered, condition_of, none_holds}

-- none of 10, 3, 9, 18 and 17 holds of an opening
pub record OpenClear (size : ℕ) (text list : List ℕ) (day : ℕ) : Type 0 where
  pub long : area_size ≤ size
  pub date : exists day ≡ true
  pub accounts : is_some (register text) ≡ true
  pub listed : is_some (holidays list) ≡ true
  pub banking : is_banking_day (holidays_of list) day ≡ true

pub open_clear : (size : ℕ) (text list : List ℕ) (day : ℕ) → first_of (open_stops size text list day) ≡ 0 → OpenClear size text list day
unfolding open_stops numbered condition_of
open_clear size text list day h =
    let ss : List Stop = open_stops size text list day in record {
      long = leb-true _ _ (not-false _ (none_holds 10 ss refl h));
      date = not-false _ (none_holds 3 ss refl h);
      accounts = not-false _ (none_holds 9 ss refl h);
      listed = not-false _ (none_holds 18 ss refl h);
      banking = not-false _ (none_holds 17 ss refl h);
    }

-- ---- a message

module _ (room : ℕ) (engine : Option Engine) (s : List ℕ) (h : first_of (message_stops room engine s) ≡ 0) where
  -- there are an engine and a message
  pub message_engine : is_some engine ≡ true
  unfolding message_stops input_stops form_stops state_stops limit_stops room_stops numbered condition_of
  message_engine = not-false _ (none_holds 10 (message_stops room engine s) refl h)

  pub message_read : is_some (read s) ≡ true
  unfolding message_stops input_stops form_stops state_stops limit_stops room_stops numbered condition_of
  message_read = not-false _ (none_holds 3 (message_stops room engine s) refl h)

-- none of 1 to 16 holds of a message, its bytes s and what it was read as
pub record Clear (room : ℕ) (e : Engine) (s : List ℕ) (m : Message) : Type 0 where
  pub frame : framed s ≡ true
  pub address : addressed s ≡ true
  pub details : length (details_of m) ≤ 16
  pub references : bad_reference m ≡ false
  pub amounts : bad_amount m ≡ false
  pub accounts : bad_account (register_of e.register).temporary m ≡ false
  pub dates : many_dates m ≡ false
  pub today : misdated e.day m ≡ false
  pub new : any (same_reference (own_reference m)) e.references ≡ false
  pub counted : length e.references < 64
  pub opens : no_room e m ≡ false
  pub under : over_limit e m ≡ false
  pub fits : length (message_text e m) ≤ room

pub clear : (room : ℕ) (e : Engine) (s : List ℕ) (m : Message) → read s ≡ some m → first_of (message_stops room (some e) s) ≡ 0 → Clear room e s m
unfolding message_stops input_stops form_stops state_stops limit_stops room_stops holds_of numbered condition_of
clear room e s m r h =
    let ss : List Stop = message_stops room (some e) s in record {
      frame = not-false _ (none_holds 1 ss refl h);
      address = not-false _ (none_holds 2 ss refl h);
      details = leb-true _ _ (not-false _ (rw r at (none_holds 4 ss refl h)));
      references = rw r at (none_holds 5 ss refl h);
      amounts = rw r at (none_holds 6 ss refl h);
      accounts = rw r at (none_holds 7 ss refl h);
      dates = rw r at (none_holds 8 ss refl h);
      today = rw r at (none_holds 11 ss refl h);
      new = rw r at (none_holds 12 ss refl h);
      counted = leb-false _ _ (none_holds 13 ss refl h);
      opens = rw r at (none_holds 14 ss refl h);
      under = rw r at (none_holds 15 ss refl h);
      fits = leb-true _ _ (not-false _ (rw r at (none_holds 16 ss refl h)));
    }

-- none of 11 to 15 holds: of these, what booking asks for
pub record LimitClear (e : Engine) (m : Message) : Type 0 where
  pub counted : length e.references < 64
  pub opens : no_room e m ≡ false
  pub under : over_limit e m ≡ false

pub limit_clear : (e : Engine) (m : Message) → first_of (limit_stops e (some m)) ≡ 0 → LimitClear e m
unfolding limit_stops holds_of numbered condition_of
limit_clear e m h =
    let ss : List Stop = limit_stops e (some m) in record {
      counted = leb-false _ _ (none_holds 13 ss refl h);
      opens = none_holds 14 ss refl h;
      under = none_holds 15 ss refl h;
    }

-- ---- a turn

pub turn_engine : (room : ℕ) (engine : Option Engine) (day : ℕ) → first_of (turn_stops room engine day) ≡ 0 → is_some engine ≡ true
unfolding turn_stops numbered condition_of
turn_engine room engine day h = not-false _ (none_holds 10 (turn_stops room engine day) refl h)

-- none of 3, 11, 17 and 16 holds
pub record TurnClear (room : ℕ) (e : Engine) (day : ℕ) : Type 0 where
  pub date : exists day ≡ true
  pub later : e.day < day
  pub banking : is_banking_day (holidays_of e.holidays) day ≡ true
  pub fits : length (turn_text e day) ≤ room

pub turn_clear : (room : ℕ) (e : Engine) (day : ℕ) → first_of (turn_stops room (some e) day) ≡ 0 → TurnClear room e day
unfolding turn_stops numbered condition_of
turn_clear room e day h =
    let ss : List Stop = turn_stops room (some e) day in record {
      date = not-false _ (none_holds 3 ss refl h);
      later = leb-false _ _ (none_holds 11 ss refl h);
      banking = not-false _ (none_holds 17 ss refl h);
      fits = leb-true _ _ (not-false _ (none_holds 16 ss refl h));
    }
