-- A call on areas answers what the call on the engine answers that the area holds, and leaves the next engine there.
use Rattle.std.specs.Prelude.{◌≡◌, Bool, ℕ, ◌≤◌, ℤ, length, take, drop}
use Rattle.std.proofs.Math.Path.{refl}
use Rattle.std.proofs.Common.{ap, ◌∙◌, length-append, length-drop}
use Rattle.std.proofs.Math.Bool.{true, false}
use mathlib.Core.List.{List, []}
use Rattle.std.proofs.Math.Option.{none, some}
use native.Mathlib.Omega.{arith}
use borrow.Author.Tests.{eqb-true, eq-eqb, le-leb}
use Rattle.std.proofs.Math.Dec.{eqb}
use Rattle.std.proofs.Math.Seq.{take_at}
use Rattle.rules.specs.Text.{over}
use Rattle.rules.specs.Messages.{read}
use Rattle.rules.specs.Engine.{Engine}
use Rattle.rules.specs.Calls.{Stop, Answer, refused, answered, first_of, open_stops, accepted_opening, open_call, message_stops, message_call, both_of, accepted_message, turn_stops, turn_call, accepted_turn}
use Rattle.rules.specs.Moves.{with_end, without_end, newer_stops, older_stops, writing, newer_call, older_call}
use Rattle.rules.specs.Area.{holds, Result, stored, on_areas, card_open, card_message, card_turn, card_newer, card_older, area_size}
use Rattle.rules.specs.Services.{Service, newer, older, service_call, beside, service_result}
use Rattle.rules.specs.Replay.{to_newer, to_older, called}
use Rattle.rule_laws.specs.Conditions.{answered_accepted, answered_refused}
use Rattle.rule_laws.specs.Moves.{newer_clear, older_clear}
use Rattle.rule_laws.specs.Options.{There}
use Rattle.commands.specs.declared.letter.Handed.{Handed}
use Rattle.commands.specs.declared.letter.Handed.TheVariants.{Message, Newer, Older}
use Rattle.commands.specs.declared.command.Command.{Command}
use Rattle.commands.specs.declared.command.Command.TheVariants.{Opens, Hands, Turns as TurnsTo}
use Rattle.commands.specs.Answers.{making, command_in}
use Rattle.engine_laws.specs.Keeps.{opened_within}
use Rattle.engine_laws.specs.Calls.{Done, done_holds, done_text, done_length, Takes, message_there, message_from, Turns, turn_there, turn_from}

-- an answer, and a result over area and output
pub record SameAnswer (a : Answer) (r : Result) (area out : List ℕ) : Type 0 where
  pub number : r.number ≡ a.number
  pub difference : r.difference ≡ a.difference
  pub text : take r.written r.output ≡ a.text
  pub next : holds r.area ≡ a.next
  pub size : length r.area ≡ length area
  pub room : length r.output ≡ length out
  pub fits : r.written ≤ length out

over_length : (text out : List ℕ) → length text ≤ length out → length (over text out) ≡ length out
unfolding over
over_length text out h = length-append text (drop (length text) out) ∙ omega (arith, length-drop (length text) out)

-- an answer of 0 is a result of 0
on_zero : (a : Answer) (area out : List ℕ) → a.number ≡ 0 → (on_areas a area out).number ≡ 0
unfolding on_areas
on_zero a area out z = rw (eq-eqb _ _ z)

-- refused
module _ (k : ℕ) (area out : List ℕ) (n : eqb k 0 ≡ false) where
  same_refused : SameAnswer (refused k (holds area)) (on_areas (refused k (holds area)) area out) area out
  unfolding on_areas
  same_refused = record { number = rw n; difference = rw n; text = rw n; next = rw n; size = rw n; room = rw n; fits = rw n (omega arith) }

-- accepted
same_done : {r : Result} {area out text : List ℕ} {d : ℤ} {next : Engine} → r.number ≡ 0 → area_size ≤ length area → length text ≤ length out → Done r area out text d next
    → SameAnswer record { number = 0; text = text; difference = d; next = some next } r area out
same_done {out = out} {text = text} z l f w = record {
  number = z;
  difference = w.difference;
  text = done_text w;
  next = done_holds w;
  size = done_length w l;
  room = ap length w.output ∙ over_length text out f;
  fits = rw w.written f;
}

-- any call, by its conditions: a refusal is the same, so that its acceptance must be
same_answered : (ss : List Stop) (a : Answer) (area out : List ℕ) → (first_of ss ≡ 0 → SameAnswer a (on_areas a area out) area out) → SameAnswer (answered ss (holds area) a) (on_areas (answered ss (holds area) a) area out) area out
same_answered ss a area out f = go (eqb (first_of ss) 0) refl
  where
    go : (t : Bool) → eqb (first_of ss) 0 ≡ t → SameAnswer (answered ss (holds area) a) (on_areas (answered ss (holds area) a) area out) area out
    go true n = let z : first_of ss ≡ 0 = eqb-true _ 0 n in rw (answered_accepted ss (holds area) a z) (f z)
    go false n = rw (answered_refused ss (holds area) a (first_of ss) refl n) (same_refused _ area out n)

module _ (area : List ℕ) (l : area_size ≤ length area) where
  -- opening: its output is nobody's
  module _ (text list : List ℕ) (day : ℕ) where
    open_same : first_of (open_stops (length area) text list day) ≡ 0 → SameAnswer (accepted_opening text list day) (on_areas (accepted_opening text list day) area []) area []
    unfolding accepted_opening on_areas stored over
    open_same k = same_done refl l (omega arith) record { good = opened_within (length area) text list day k; written = refl; difference = refl; area = refl; output = refl }

    sizes : open_stops area_size text list day ≡ open_stops (length area) text list day
    unfolding open_stops
    sizes = rw (le-leb _ _ l)

    pub same_open : SameAnswer (open_call area_size (holds area) text list day) (card_open text list day area) area []
    unfolding open_call card_open
    same_open = rw sizes (same_answered (open_stops (length area) text list day) (accepted_opening text list day) area [] open_same)

  -- a message
  module _ (out s : List ℕ) where
    message_same : first_of (message_stops (length out) (holds area) s) ≡ 0 → SameAnswer (both_of (holds area) (read s)) (on_areas (both_of (holds area) (read s)) area out) area out
    unfolding card_message message_call both_of accepted_message
    message_same k =
        let h : There (holds area) = message_there s area out k in
        let w : Takes s area out h.value = message_from s area out k h.value h.is in
        let e : both_of (holds area) (read s) ≡ accepted_message h.value w.message = rw (h.is, w.reads) in
        let r : Result = on_areas (accepted_message h.value w.message) area out in
        rw e (same_done {r = r} (on_zero (accepted_message h.value w.message) area out refl) l w.clear.fits (rw (answered_accepted _ (holds area) (both_of (holds area) (read s)) k, e) at w.done))

    same_message : SameAnswer (message_call (length out) (holds area) s) (card_message s area out) area out
    unfolding message_call card_message
    same_message = same_answered (message_stops (length out) (holds area) s) (both_of (holds area) (read s)) area out message_same

  -- a turn
  module _ (out : List ℕ) (day : ℕ) where
    turn_same : first_of (turn_stops (length out) (holds area) day) ≡ 0 → SameAnswer (accepted_turn (holds area) day) (on_areas (accepted_turn (holds area) day) area out) area out
    unfolding card_turn turn_call accepted_turn
    turn_same k =
        let h : There (holds area) = turn_there day area out k in
        let w : Turns day area out h.value = turn_from day area out k h.value h.is in
        let r : Result = on_areas (accepted_turn (some h.value) day) area out in
        rw h.is (same_done {r = r} (on_zero (accepted_turn (some h.value) day) area out refl) l w.clear.fits (rw (answered_accepted _ (holds area) (accepted_turn (holds area) day) k, h.is) at w.done))

    pub same_turn : SameAnswer (turn_call (length out) (holds area) day) (card_turn day area out) area out
    unfolding turn_call card_turn
    same_turn = same_answered (turn_stops (length out) (holds area) day) (accepted_turn (holds area) day) area out turn_same

-- ---- calls that change no engine

-- a text written to the output alone: the answer is the same whatever the area holds
module _ (ss : List Stop) (area out text : List ℕ) where
  beside_same : (first_of ss ≡ 0 → length text ≤ length out) → SameAnswer (answered ss (holds area) (writing (holds area) text)) (beside area (on_areas (answered ss none (writing none text)) [] out)) area out
  unfolding beside on_areas over
  beside_same f = go (eqb (first_of ss) 0) refl
    where
      go : (t : Bool) → eqb (first_of ss) 0 ≡ t → SameAnswer (answered ss (holds area) (writing (holds area) text)) (beside area (on_areas (answered ss none (writing none text)) [] out)) area out
      go true n =
          let z : first_of ss ≡ 0 = eqb-true _ 0 n in
          rw (answered_accepted ss (holds area) (writing (holds area) text) z, answered_accepted ss none (writing none text) z)
          record { number = refl; difference = refl; text = take_at text (drop (length text) out) (length text) refl; next = refl; size = refl; room = over_length text out (f z); fits = f z }
      go false n =
          rw (answered_refused ss (holds area) (writing (holds area) text) (first_of ss) refl n, answered_refused ss none (writing none text) (first_of ss) refl n, n)
          record { number = refl; difference = refl; text = refl; next = refl; size = refl; room = refl; fits = omega arith }

same_service : (area out : List ℕ) (v : Service) → SameAnswer (service_call (length out) (holds area) v) (service_result v area out) area out
unfolding service_call service_result newer_call card_newer older_call card_older
same_service area out (newer s) = beside_same (newer_stops (length out) s) area out (with_end s) (λ k. (newer_clear (length out) s k).fits)
same_service area out (older s) = beside_same (older_stops (length out) s) area out (without_end s) (λ k. (older_clear (length out) s k).fits)

-- what it does to area and output
unfoldable pub text_result : Handed → List ℕ → List ℕ → List ℕ → Result
text_result Message s area out = card_message s area out
text_result Newer s area out = service_result (newer s) area out
text_result Older s area out = service_result (older s) area out

pub same_text : (area : List ℕ) → area_size ≤ length area → (out : List ℕ) (h : Handed) (s : List ℕ) → SameAnswer (called (length out) (holds area) (making h s)) (text_result h s area out) area out
unfolding called making to_newer to_older text_result
same_text area l out Message s = same_message area l out s
same_text area l out Newer s = same_service area out (newer s)
same_text area l out Older s = same_service area out (older s)

-- ---- the call that a command is for

-- a call that is not lent the output: that is as it was
abbrev pub unwritten : List ℕ → Result → Result
unwritten out r = record { number = r.number; written = r.written; difference = r.difference; area = r.area; output = out }

-- what it does to area and output
unfoldable pub result_of : Command → List ℕ → List ℕ → Result
result_of (Opens day register holidays) area out = unwritten out (card_open register.now holidays.now day area)
result_of (Hands Message text) area out = card_message text.now area out
result_of (Hands Newer text) area out = service_result (newer text.now) area out
result_of (Hands Older text) area out = service_result (older text.now) area out
result_of (TurnsTo day) area out = card_turn day area out

-- an opening writes nothing
same_unwritten : {a : Answer} {r : Result} {area : List ℕ} (out : List ℕ) → SameAnswer a r area [] → SameAnswer a (unwritten out r) area out
same_unwritten {r = r} out w =
    let z : r.written ≡ 0 = omega (arith, w.fits) in record {
      number = w.number;
      difference = w.difference;
      text = rw z (rw z at w.text);
      next = w.next;
      size = w.size;
      room = refl;
      fits = omega (arith, w.fits);
    }

pub same_call : (area : List ℕ) → area_size ≤ length area → (out : List ℕ) (c : Command) → SameAnswer (called (length out) (holds area) (command_in c)) (result_of c area out) area out
unfolding called making to_newer to_older result_of
same_call area l out (Opens day register holidays) = same_unwritten out (same_open area l register.now holidays.now day)
same_call area l out (Hands Message text) = same_message area l out text.now
same_call area l out (Hands Newer text) = same_service area out (newer text.now)
same_call area l out (Hands Older text) = same_service area out (older text.now)
same_call area l out (TurnsTo day) = same_turn area l out day
