-- A turn, one law for each way out of the call.
use Rattle.std.specs.Prelude.{◌≡◌, Bool, true, false, not, List, [], ◌∷◌, ◌++◌, ℕ, ◌≤◌, ◌<◌, ◌^◌, leb, eqb, ℤ, pos, length, drop}
use Rattle.std.proofs.Math.Path.{refl}
use Rattle.std.proofs.Common.{sym, ◌∙◌, arith}
use Rattle.std.proofs.Math.Option.{some}
use borrow.Author.Tests.{le-leb, lt-leb, ne_eqb}
use Rattle.std.proofs.Math.IntN.{sub_ℕ}
use Rattle.std.specs.Int.Signed.{mag}
use Rattle.rules.specs.Text.{is_some, over}
use Rattle.rules.specs.Dates.{exists}
use Rattle.rules.specs.BankingDays.{holidays_of, is_banking_day}
use Rattle.rules.specs.Engine.{Engine}
use Rattle.rules.specs.Calls.{Stop, stop, first_of, turn_stops, turn_text, refunded, collected, after_turn, turn_call, accepted_turn}
use Rattle.rules.specs.Area.{card_turn, encode, decode, holds, area_size}
use Rattle.laws.specs.Tests.{holds_told, passed_told}
use Rattle.laws.specs.Writing.{wrote_over, furthest}
use Rattle.rule_laws.specs.Conditions.{numbered, first_earlier, first_later}
use Rattle.engine_laws.specs.Decoded.{holds_decode}
use Rattle.put.specs.declared.parts.Writer.{Writer}
use Rattle.put.specs.Writes.{wrote_at}
use Rattle.turn_text.specs.Area.{TurnPut}
use Rattle.turn_text.specs.Sums.{SumsOf}
use Rattle.turn_text.specs.declared.sums.Sums.{Sums}
use Rattle.engine_change.specs.Turning.{turned, turned_after}
use Rattle.engine.specs.Header.{HeaderOf}
use Rattle.engine.specs.Texts.{ListOf}
use Rattle.engine.specs.declared.header.Header.{Header}
use Rattle.banking_days.specs.Lists.{Banking}
use Rattle.card.specs.Measured.{wrote_exact, Measured, measured, size_long, size_fits}
use Rattle.card.specs.Answers.{Answers, answers_refused, answers_accepted}
use Rattle.card.specs.Minus.{difference_small}

-- ---- the conditions of a turn's day

-- 11 and 17, by whether it is no later and a banking day
unfoldable pub later_stops : Bool → Bool → List Stop
later_stops early banking = stop 11 early ∷ stop 17 (not banking) ∷ []

-- 3, 11 and 17
unfoldable pub day_stops : Engine → ℕ → List Stop
day_stops e day = stop 3 (not (exists day)) ∷ later_stops (leb day e.day) (is_banking_day (holidays_of e.holidays) day)

module _ (early banking : Bool) where
  pub stop_early : early ≡ true → 11 ≡ first_of (later_stops early banking)
  unfolding first_of later_stops
  stop_early h = rw h

  module _ (h : early ≡ false) where
    pub stop_closed : not banking ≡ true → 17 ≡ first_of (later_stops early banking)
    unfolding first_of later_stops
    stop_closed k = rw (h, k)

    pub stop_neither : not banking ≡ false → 0 ≡ first_of (later_stops early banking)
    unfolding first_of later_stops
    stop_neither k = rw (h, k)

-- ---- the call

module _ (day : ℕ) (area out : List ℕ) where
  refusal : (k : ℕ) → first_of (turn_stops (length out) (holds area) day) ≡ k → eqb k 0 ≡ false → Answers (card_turn day area out) k 0 (pos 0) area out
  unfolding card_turn turn_call
  refusal = answers_refused (turn_stops (length out) (holds area) day) (holds area) (accepted_turn (holds area) day) area out

  pub turn_engine : is_some (holds area) ≡ false → Answers (card_turn day area out) 10 0 (pos 0) area out
  unfolding first_of turn_stops
  turn_engine h = refusal 10 (rw h refl) refl

  module _ (e : Engine) (h : holds area ≡ some e) where
    -- 16, behind the conditions of the day
    abbrev last : List Stop
    last = stop 16 (not (leb (length (turn_text e day)) (length out))) ∷ []

    apart : turn_stops (length out) (holds area) day ≡ stop 10 false ∷ (day_stops e day ++ last)
    unfolding turn_stops day_stops later_stops
    apart = rw h

    pub turn_stopped : (k : ℕ) → first_of (day_stops e day) ≡ k → eqb k 0 ≡ false → Answers (card_turn day area out) k 0 (pos 0) area out
    unfolding first_of
    turn_stopped k f n = refusal k (rw apart (first_earlier (day_stops e day) last k f n)) n

    module _ (f : first_of (day_stops e day) ≡ 0) where
      behind : first_of (turn_stops (length out) (holds area) day) ≡ first_of last
      unfolding first_of day_stops later_stops numbered
      behind = rw apart (first_later (day_stops e day) last refl f)

      pub turn_room : length out < length (turn_text e day) → Answers (card_turn day area out) 16 0 (pos 0) area out
      unfolding first_of
      turn_room w = refusal 16 (behind ∙ rw (lt-leb _ _ w)) refl

      none_left : length (turn_text e day) ≤ length out → first_of (turn_stops (length out) (holds area) day) ≡ 0
      unfolding first_of
      none_left w = behind ∙ rw (le-leb _ _ w)

      pub turn_accepted : {n : ℕ} {z : ℤ} {area' out' : List ℕ} → length (turn_text e day) ≤ length out
          → n ≡ length (turn_text e day) → z ≡ sub_ℕ (refunded e.positions) (collected e.positions)
          → area' ≡ encode (after_turn e day) ++ drop area_size area → out' ≡ over (turn_text e day) out → mag z < 2 ^ 63
          → Answers (card_turn day area out) 0 n z area' out'
      unfolding card_turn turn_call accepted_turn
      turn_accepted w p q a o m = answers_accepted _ (holds area) (accepted_turn (holds area) day) area out (none_left w) (rw h) p q a o m

-- ---- as the code goes: the engine is what is read off the area

-- a turn that is made: bytes, difference, area and output
pub record Turned (day : ℕ) (a out : List ℕ) (n : ℕ) (z : ℤ) (a' out' : List ℕ) : Type 0 where
  pub written : n ≡ length (turn_text (decode a) day)
  pub difference : z ≡ sub_ℕ (refunded (decode a).positions) (collected (decode a).positions)
  pub area : a' ≡ encode (after_turn (decode a) day) ++ drop area_size a
  pub output : out' ≡ over (turn_text (decode a) day) out
  pub small : mag z < 2 ^ 63

-- its text written, its sums, and the area turned
pub turned_done : (day : ℕ) {a out out' a' : List ℕ} {w₀ w₁ : Writer} {count : ℕ} {z : ℤ} (x : Sums) → length (turn_text (decode a) day) ≤ length out → TurnPut a day w₀ count w₁ → w₀.out.now ≡ out → w₀.at ≡ 0 → out' ≡ w₁.out.now
    → SumsOf (decode a).positions x → z ≡ sub_ℕ x.refunded x.collected → a' ≡ encode (turned (decode a) day count) ++ drop area_size a → Turned day a out w₁.at z a' out'
turned_done day {a} x l w f g o t d c = record {
  written = wrote_exact (wrote_at w.writes f g o) l;
  difference = d ∙ rw (t.refunded, t.collected) refl;
  area = c ∙ rw (w.counted, turned_after (decode a) day) refl;
  output = wrote_over (wrote_at w.writes f g o) l;
  small = rw d (difference_small x.refunded x.collected (omega (arith, t.refunded_small)) (omega (arith, t.collected_small)));
}

-- the number of the day's conditions, in their order
module _ (day : ℕ) (area : List ℕ) (h : is_some (holds area) ≡ true) (t : Bool) (u : t ≡ exists day) where
  pub stop_date : t ≡ false → 3 ≡ first_of (day_stops (decode area) day)
  unfolding first_of day_stops
  stop_date d = rw (← u, d)

  pub stop_later : t ≡ true → (x : Header) → HeaderOf area x → {l : List ℕ} → ListOf area l → (b : Bool) → Banking l day b → {k : ℕ} → k ≡ first_of (later_stops (leb day x.day) b) → k ≡ first_of (day_stops (decode area) day)
  unfolding first_of day_stops later_stops
  stop_later d x n {l} w b c {k} e =
      let f : b ≡ is_banking_day (holidays_of (decode area).holidays) day = c.same w.passes ∙ rw w.same in
      rw (← u, d, ← n.day, ← f) e

module _ (day : ℕ) (area out : List ℕ) (h : is_some (holds area) ≡ true) (k : ℕ) (f : k ≡ first_of (day_stops (decode area) day)) where
  engine : holds area ≡ some (decode area)
  engine = holds_decode area h

  pub turn_refused : (k ≡ 0 → ⊥) → Answers (card_turn day area out) k 0 (pos 0) area out
  turn_refused n = turn_stopped day area out (decode area) engine k (sym f) (ne_eqb k 0 n)

  module _ (n : k ≡ 0) {r : ℕ} (w : Measured (turn_text (decode area) day) r) where
    pub turn_refused_room : length out < r → Answers (card_turn day area out) 16 0 (pos 0) area out
    turn_refused_room l = turn_room day area out (decode area) engine (sym f ∙ n) (size_long w (length out) l)

    pub turn_fits : r ≤ length out → length out < furthest → length (turn_text (decode area) day) ≤ length out
    turn_fits l m = size_fits w (length out) l m

    pub turn_made : {n₁ : ℕ} {z : ℤ} {area' out' : List ℕ} → r ≤ length out → length out < furthest → Turned day area out n₁ z area' out'
        → Answers (card_turn day area out) 0 n₁ z area' out'
    turn_made l m c =
        turn_accepted day area out (decode area) engine (sym f ∙ n) (turn_fits l m) c.written c.difference c.area c.output c.small

-- 10
pub turn_no_engine : (day : ℕ) (area out : List ℕ) (t : Bool) → t ≡ is_some (holds area) → t ≡ false → Answers (card_turn day area out) 10 0 (pos 0) area out
turn_no_engine day area out t u d = turn_engine day area out (sym u ∙ d)

pub ruleset stopping = (passed_told, stop_early, stop_closed, stop_neither, stop_date, stop_later)

pub ruleset turning = (holds_told, turn_no_engine, measured, turned_done, turn_refused, turn_refused_room, turn_fits, turn_made)
