-- The three calls on areas: an acceptance leaves an area that holds the next engine and writes its text, a refusal leaves all as it was.
use Rattle.std.specs.Prelude.{◌≡◌, Bool, ℕ, ◌≤◌, ℤ, pos, length, take, drop}
use Rattle.std.proofs.Math.Path.{refl}
use Rattle.std.proofs.Math.Bool.{true, false}
use mathlib.Core.List.{List, [], ◌++◌}
use Rattle.std.proofs.Math.Option.{Option, some}
use Rattle.std.proofs.Common.{arith, length-append, length-drop, take_at, drop_at}
use Rattle.std.proofs.Math.Dec.{eqb}
use Rattle.std.proofs.Math.IntN.{sub_ℕ}
use borrow.Author.Tests.{eqb-true, eqb-false}
use Rattle.rules.specs.Text.{over}
use Rattle.rules.specs.Messages.{Message, read}
use Rattle.rules.specs.Engine.{Engine, within}
use Rattle.rules.specs.Calls.{Stop, first_of, Answer, answered, open_stops, opened, accepted_opening, open_call, message_stops, message_text, position_after, after_message, accepted_message, both_of, message_call, turn_text, turn_stops, refunded, collected, after_turn, accepted_turn, turn_call}
use Rattle.rules.specs.Area.{encode, holds, Result, stored, on_areas, card_open, card_message, card_turn, area_size}
use Rattle.rule_laws.specs.Conditions.{answered_accepted, answered_zero}
use Rattle.rule_laws.specs.Clear.{OpenClear, open_clear, Clear, clear, message_engine, message_read, TurnClear, turn_clear, turn_engine}
use Rattle.rule_laws.specs.Options.{There, there}
use Rattle.engine_laws.specs.EngineIn.{encode_length, holds_encode, engine_in}
use Rattle.engine_laws.specs.Keeps.{opened_within, message_within, turn_within}

-- ---- what a call does to area and output

-- accepted: the text and the difference, and the next engine, within its limits
pub record Done (r : Result) (old out text : List ℕ) (d : ℤ) (next : Engine) : Type 0 where
  pub good : within next ≡ true
  pub written : r.written ≡ length text
  pub difference : r.difference ≡ d
  pub area : r.area ≡ encode next ++ drop area_size old
  pub output : r.output ≡ over text out

-- refused: "difference, bytes and all else 0", and "a refusal changes no byte of output or area"
pub record Stays (r : Result) (old out : List ℕ) : Type 0 where
  pub written : r.written ≡ 0
  pub difference : r.difference ≡ pos 0
  pub area : r.area ≡ old
  pub output : r.output ≡ out

-- the next engine is what the area then holds
pub done_holds : {r : Result} {area out text : List ℕ} {d : ℤ} {next : Engine} → Done r area out text d next → holds r.area ≡ some next
done_holds {area = area} {next = next} w = rw w.area (holds_encode next w.good (drop area_size area))

pub done_length : {r : Result} {area out text : List ℕ} {d : ℤ} {next : Engine} → Done r area out text d next → area_size ≤ length area → length r.area ≡ length area
done_length {area = area} {next = next} w h = rw (w.area, length-append, encode_length next w.good, length-drop) (omega arith)

-- "those behind are not touched"
pub done_behind : {r : Result} {area out text : List ℕ} {d : ℤ} {next : Engine} → Done r area out text d next → drop area_size r.area ≡ drop area_size area
done_behind {area = area} {next = next} w = rw w.area (drop_at (encode next) (drop area_size area) area_size (encode_length next w.good))

-- the bytes written are the text
pub done_text : {r : Result} {area out text : List ℕ} {d : ℤ} {next : Engine} → Done r area out text d next → take r.written r.output ≡ text
unfolding over
done_text {out = out} {text = text} w = rw (w.written, w.output) (take_at text (drop (length text) out) (length text) refl)

-- ---- an answer laid into areas

module _ (a : Answer) (area out : List ℕ) where
  on_zero : (on_areas a area out).number ≡ 0 → a.number ≡ 0
  unfolding on_areas
  on_zero h = go (eqb a.number 0) refl
    where
      go : (t : Bool) → eqb a.number 0 ≡ t → a.number ≡ 0
      go true e = eqb-true a.number 0 e
      go false e = rw e at h

  on_stays : ((on_areas a area out).number ≡ 0 → ⊥) → Stays (on_areas a area out) area out
  unfolding on_areas
  on_stays h = go (eqb a.number 0) refl
    where
      go : (t : Bool) → eqb a.number 0 ≡ t → Stays (on_areas a area out) area out
      go true e = absurd (h (rw e))
      go false e = record { written = rw e; difference = rw e; area = rw e; output = rw e }

-- a call's result: where its number is 0 no condition holds, else all stays
pub record Ends (ss : List Stop) (r : Result) (area out : List ℕ) : Type 0 where
  pub accepted : r.number ≡ 0 → first_of ss ≡ 0
  pub refused : (r.number ≡ 0 → ⊥) → Stays r area out

-- a call is accepted or refused
pub by_number : {P : Type 0} {ss : List Stop} {r : Result} {area out : List ℕ} → Ends ss r area out → (r.number ≡ 0 → P) → ((r.number ≡ 0 → ⊥) → Stays r area out → P) → P
by_number {P} {r = r} c f g = go (eqb r.number 0) refl
  where
    go : (t : Bool) → eqb r.number 0 ≡ t → P
    go true e = f (eqb-true _ _ e)
    go false e = g (eqb-false _ _ e) (c.refused (eqb-false _ _ e))

on_ends : (ss : List Stop) (engine : Option Engine) (a : Answer) (area out : List ℕ) → Ends ss (on_areas (answered ss engine a) area out) area out
on_ends ss engine a area out = record { accepted = λ h. answered_zero ss engine a (on_zero _ area out h); refused = on_stays _ area out }

on_done : (text : List ℕ) (d : ℤ) (next : Engine) (area out : List ℕ) → within next ≡ true → Done (on_areas record { number = 0; text = text; difference = d; next = some next } area out) area out text d next
unfolding on_areas stored
on_done text d next area out w = record { good = w; written = refl; difference = refl; area = refl; output = refl }

-- ---- opening

module _ (text list : List ℕ) (day : ℕ) (area : List ℕ) where
  pub record Opens : Type 0 where
    pub clear : OpenClear (length area) text list day
    pub done : Done (card_open text list day area) area [] [] (pos 0) (opened text list day)

  pub open_accepted : (card_open text list day area).number ≡ 0 → Opens
  unfolding card_open open_call accepted_opening
  open_accepted h =
      let k : first_of (open_stops (length area) text list day) ≡ 0 = (on_ends _ (holds area) (accepted_opening text list day) area []).accepted h in record {
        clear = open_clear (length area) text list day k;
        done = rw (answered_accepted _ (holds area) (accepted_opening text list day) k) (on_done [] (pos 0) (opened text list day) area [] (opened_within (length area) text list day k));
      }

-- ---- message

module _ (s area out : List ℕ) where
  -- accepted on an area that holds e
  pub record Takes (e : Engine) : Type 0 where
    pub message : Message
    pub reads : read s ≡ some message
    pub clear : Clear (length out) e s message
    pub done : Done (card_message s area out) area out (message_text e message) (sub_ℕ (position_after e message).transferred (position_after e message).detailed) (after_message e message)

  module _ (k : first_of (message_stops (length out) (holds area) s) ≡ 0) where
    -- where no condition holds there is an engine
    pub message_there : There (holds area)
    message_there = there (holds area) (message_engine (length out) (holds area) s k)

    message_done : (e : Engine) (m : Message) → holds area ≡ some e → read s ≡ some m → Takes e
    unfolding card_message message_call both_of accepted_message
    message_done e m h r =
        let z : first_of (message_stops (length out) (some e) s) ≡ 0 = rw h at k in
        record {
          message = m;
          reads = r;
          clear = clear (length out) e s m r z;
          done = rw (answered_accepted _ (holds area) (both_of (holds area) (read s)) k, h, r) (on_done _ _ (after_message e m) area out (message_within (length out) e s m (engine_in area e h).good r z));
        }

    pub message_from : (e : Engine) → holds area ≡ some e → Takes e
    message_from e h = let m : There (read s) = there (read s) (message_read (length out) (holds area) s k) in message_done e m.value h m.is

  pub message_ends : Ends (message_stops (length out) (holds area) s) (card_message s area out) area out
  unfolding card_message message_call
  message_ends = on_ends _ (holds area) _ area out

  pub message_accepted : (e : Engine) → holds area ≡ some e → (card_message s area out).number ≡ 0 → Takes e
  message_accepted e h z = message_from (message_ends.accepted z) e h

-- ---- turn

module _ (day : ℕ) (area out : List ℕ) where
  pub record Turns (e : Engine) : Type 0 where
    pub clear : TurnClear (length out) e day
    pub done : Done (card_turn day area out) area out (turn_text e day) (sub_ℕ (refunded e.positions) (collected e.positions)) (after_turn e day)

  module _ (k : first_of (turn_stops (length out) (holds area) day) ≡ 0) where
    pub turn_there : There (holds area)
    turn_there = there (holds area) (turn_engine (length out) (holds area) day k)

    pub turn_from : (e : Engine) → holds area ≡ some e → Turns e
    unfolding card_turn turn_call accepted_turn
    turn_from e h =
        let z : first_of (turn_stops (length out) (some e) day) ≡ 0 = rw h at k in
        record {
          clear = turn_clear (length out) e day z;
          done = rw (answered_accepted _ (holds area) (accepted_turn (holds area) day) k, h) (on_done _ _ (after_turn e day) area out (turn_within (length out) e day (engine_in area e h).good z));
        }

  pub turn_ends : Ends (turn_stops (length out) (holds area) day) (card_turn day area out) area out
  unfolding card_turn turn_call
  turn_ends = on_ends _ (holds area) _ area out

  pub turn_accepted : (e : Engine) → holds area ≡ some e → (card_turn day area out).number ≡ 0 → Turns e
  turn_accepted e h z = turn_from (turn_ends.accepted z) e h
