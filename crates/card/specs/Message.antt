-- A message, one law for each way out of the call.
use Rattle.std.specs.Prelude.{◌≡◌, Bool, true, false, not, List, ◌++◌, ℕ, ◌+◌, ◌≤◌, ◌<◌, ◌^◌, eqb, ℤ, pos, length, drop, replicate, Option, Err}
use Rattle.std.proofs.Math.Path.{refl}
use Rattle.std.proofs.Common.{sym, ap, ◌∙◌, le-leb, ne_eqb, arith}
use Rattle.std.proofs.Math.Option.{some}
use Rattle.std.proofs.lemmas.Bool.{lt-leb}
use Rattle.std.proofs.Math.IntN.{sub_ℕ}
use Rattle.std.specs.Int.Signed.{mag}
use Rattle.rules.specs.Text.{is_some, over}
use Rattle.rules.specs.Messages.{Message, read}
use Rattle.rules.specs.Engine.{Engine, Position}
use Rattle.rules.specs.Calls.{first_of, holds_of, bank_of, addition, form_stops, input_stops, limit_stops, room_stops, state_stops, message_stops, message_text, messages_written, position_after, after_message, message_call, both_of, accepted_message}
use Rattle.rules.specs.Area.{card_message, encode, decode, holds, area_size}
use Rattle.laws.specs.Tests.{holds_told}
use Rattle.laws.specs.Writing.{wrote_over, furthest}
use Rattle.rule_laws.specs.Conditions.{numbered, first_later, first_earlier}
use Rattle.rule_laws.specs.Clear.{LimitClear, limit_clear}
use Rattle.engine_laws.specs.Decoded.{decoded, holds_decode}
use Rattle.engine.specs.Totals.{TotalsOf, LookedUp, begun}
use Rattle.engine.specs.Texts.{RegisterOf}
use Rattle.engine_change.specs.Booking.{CanBook, booking_clear, booked_with, booked_after}
use Rattle.engine.specs.References.{of_bank}
use Rattle.forms.specs.Spans.{span_of}
use Rattle.put.specs.declared.parts.Writer.{Writer}
use Rattle.put.specs.Writes.{wrote_at}
use Rattle.details.specs.Message.{message_in}
use Rattle.conditions.specs.Books.{Books, is_transfer}
use Rattle.conditions.specs.Answers.{Checked, temporary_in, CheckedAs, Passes, refused_told, refused_some, passed_told, passed_room}
use Rattle.conditions.specs.declared.booking.Booking.{Booking}
use Rattle.refusal.specs.Numbers.{number_of}
use Rattle.refusal.specs.declared.Refusal.{Refusal}
use Rattle.verdict.specs.Details.{JudgedIn, JudgingRoom}
use Rattle.verdict.specs.declared.detail.Judged.{Judged}
use Rattle.state_conditions.specs.Stops.{addition_by}
use Rattle.message_text.specs.Message.{AfterOf, amount_part, after_is, TextPut}
use Rattle.position.specs.Values.{position_value}
use Rattle.position.specs.declared.Position as P
use Rattle.card.specs.Answers.{Answers, answers_refused, answers_accepted}
use Rattle.card.specs.Minus.{difference_small}
use Rattle.card.specs.Measured.{wrote_exact, Measured, measured, size_long, size_fits}

module _ (s area out : List ℕ) where
  refusal : (k : ℕ) → first_of (message_stops (length out) (holds area) s) ≡ k → eqb k 0 ≡ false → Answers (card_message s area out) k 0 (pos 0) area out
  unfolding card_message message_call
  refusal = answers_refused (message_stops (length out) (holds area) s) (holds area) (both_of (holds area) (read s)) area out

  pub message_engine : is_some (holds area) ≡ false → Answers (card_message s area out) 10 0 (pos 0) area out
  unfolding first_of message_stops
  message_engine h = refusal 10 (rw h refl) refl

  module _ (e : Engine) (h : holds area ≡ some e) where
    stops_are : first_of (message_stops (length out) (holds area) s) ≡ first_of (input_stops (temporary_in e.register) s ++ state_stops (length out) e (read s))
    unfolding first_of message_stops
    stops_are = rw h refl

    inputs_numbered : numbered (input_stops (temporary_in e.register) s) ≡ true
    unfolding numbered input_stops form_stops
    inputs_numbered = refl

    pub message_input : (k : ℕ) → first_of (input_stops (temporary_in e.register) s) ≡ k → eqb k 0 ≡ false → Answers (card_message s area out) k 0 (pos 0) area out
    message_input k i n = refusal k (stops_are ∙ first_earlier _ _ k i n) n

    module _ (m : Message) (i : first_of (input_stops (temporary_in e.register) s) ≡ 0) (r : read s ≡ some m) where
      state_are : first_of (message_stops (length out) (holds area) s) ≡ first_of (limit_stops e (some m) ++ room_stops (length out) e (some m))
      unfolding state_stops
      state_are = stops_are ∙ first_later _ _ inputs_numbered i ∙ rw r refl

      limits_numbered : numbered (limit_stops e (some m)) ≡ true
      unfolding numbered limit_stops
      limits_numbered = refl

      pub message_state : (k : ℕ) → first_of (limit_stops e (some m)) ≡ k → eqb k 0 ≡ false → Answers (card_message s area out) k 0 (pos 0) area out
      message_state k l n = refusal k (state_are ∙ first_earlier _ _ k l n) n

      pub message_room : first_of (limit_stops e (some m)) ≡ 0 → length out < length (message_text e m) → Answers (card_message s area out) 16 0 (pos 0) area out
      unfolding first_of room_stops holds_of
      message_room l w = refusal 16 (state_are ∙ first_later _ _ limits_numbered l ∙ rw (lt-leb _ _ w) refl) refl

      none_holds : first_of (limit_stops e (some m)) ≡ 0 → length (message_text e m) ≤ length out → first_of (message_stops (length out) (holds area) s) ≡ 0
      unfolding first_of room_stops holds_of
      none_holds l w = state_are ∙ first_later _ _ limits_numbered l ∙ rw (le-leb _ _ w) refl

      pub message_accepted : {n : ℕ} {d : ℤ} {area' out' : List ℕ} → first_of (limit_stops e (some m)) ≡ 0 → length (message_text e m) ≤ length out
          → n ≡ length (message_text e m) → d ≡ sub_ℕ (position_after e m).transferred (position_after e m).detailed
          → area' ≡ encode (after_message e m) ++ drop area_size area → out' ≡ over (message_text e m) out → mag d < 2 ^ 63
          → Answers (card_message s area out) 0 n d area' out'
      unfolding card_message message_call both_of accepted_message
      message_accepted l w p q a o m₁ = answers_accepted _ (holds area) (both_of (holds area) (read s)) area out (none_holds l w) (rw (h, r)) p q a o m₁

-- ---- as the code goes: the engine is what is read off the area, the message what is read off the bytes

-- a message that is booked: bytes, difference, area and output
pub record Sent (s a out : List ℕ) (n : ℕ) (z : ℤ) (a' out' : List ℕ) : Type 0 where
  pub written : n ≡ length (message_text (decode a) (message_in s))
  pub difference : z ≡ sub_ℕ (position_after (decode a) (message_in s)).transferred (position_after (decode a) (message_in s)).detailed
  pub area : a' ≡ encode (after_message (decode a) (message_in s)) ++ drop area_size a
  pub output : out' ≡ over (message_text (decode a) (message_in s)) out
  pub small : mag z < 2 ^ 63

-- the area holds the engine after the message
pub record AreaBooked (s a a' : List ℕ) : Type 0 where
  pub area : a' ≡ encode (after_message (decode a) (message_in s)) ++ drop area_size a

-- p is the message's position as it leaves it
pub record Leaves (a s : List ℕ) (p : P.Position) : Type 0 where
  pub same : position_value p ≡ position_after (decode a) (message_in s)
  pub transferred_small : p.transferred < 2 ^ 62
  pub detailed_small : p.detailed < 2 ^ 62

-- a message that none of 1 to 15 stops, to be written and booked
pub record Ready (s a : List ℕ) (b : Booking) (p : P.Position) (kept : List Judged) : Type 0 where
  pub engine : is_some (holds a) ≡ true
  pub books : Books s (message_in s) b
  pub none_holds : 0 ≡ first_of (limit_stops (decode a) (some (message_in s)))
  pub judged : JudgedIn (decode a).register s kept
  pub leaves : Leaves a s p

-- by the totals alone
pub leaves_by : (a s : List ℕ) (b : Booking) → Books s (message_in s) b → (x : Option P.Position) → TotalsOf (decode a).positions b.key x → (p : P.Position) → AfterOf b (begun b.key x) p → Leaves a s p
leaves_by a s b k x y p q = record {
  same = after_is a s b k x y p q;
  transferred_small = omega (arith, q.transferred, y.transferred_small, amount_part (is_transfer b.kind) b.amount, k.small);
  detailed_small = omega (arith, q.detailed, y.detailed_small, amount_part (not (is_transfer b.kind)) b.amount, k.small);
}

-- as they are looked up
pub leaves_told : (a s : List ℕ) (b : Booking) → Books s (message_in s) b → (x : Option P.Position) → LookedUp (decode a).positions b.key x → (p : P.Position) → AfterOf b (begun b.key x) p → Leaves a s p
leaves_told a s b k x y p q = leaves_by a s b k x y.totals p q

module _ (s area : List ℕ) (h : is_some (holds area) ≡ true) (b : Booking) {kept : List Judged} (k : Passes s (decode area).register b kept) (p : P.Position) (q : Leaves area s p)
    (z : 0 ≡ first_of (limit_stops (decode area) (some (message_in s)))) where
  pub ready : Ready s area b p kept
  ready = record { engine = h; books = k.books; none_holds = z; judged = k.judged; leaves = q }

module _ (s area : List ℕ) (h : is_some (holds area) ≡ true) where
  engine : holds area ≡ some (decode area)
  engine = holds_decode area h

  module _ (b : Booking) (k : Books s (message_in s) b) where
    -- the message's own parts
    module _ {p : P.Position} (u : p ≡ addition_by b) where
      position_is : position_value p ≡ addition (message_in s)
      position_is = rw (u, ← k.key, k.transferred, k.detailed) refl

      bank_is : p.key.bank ≡ bank_of (message_in s)
      bank_is = ap (λ (x : Position). x.key.bank) position_is

      own_bank : b.key.bank ≡ bank_of (message_in s)
      own_bank = rw u at bank_is

      -- where none of 11 to 15 holds it can be booked
      pub booking_of_lem : 0 ≡ first_of (limit_stops (decode area) (some (message_in s))) → CanBook (decode area) (position_value p)
      booking_of_lem z =
          let c : LimitClear (decode area) (message_in s) = limit_clear (decode area) (message_in s) (sym z) in
          rw position_is (booking_clear (decode area) (message_in s) (decoded area h).good c.counted c.opens c.under)

      -- the area with the message
      pub booked_done : {a' field : List ℕ} {w : ℕ} → w ≡ (decode area).count + messages_written (decode area) (message_in s) → field ≡ span_of s b.reference
          → a' ≡ encode (booked_with (decode area) (position_value p) (of_bank b.key.bank field) w) ++ drop area_size area → AreaBooked s area a'
      booked_done f g c = record { area = c ∙ rw (g, position_is, own_bank, k.reference, f, booked_after) refl }

pub sent_done : {s area : List ℕ} {b : Booking} {p : P.Position} {kept : List Judged} → Ready s area b p kept → {out out' a' : List ℕ} {w₀ w₁ : Writer} {count : ℕ} {z : ℤ} → length (message_text (decode area) (message_in s)) ≤ length out
    → TextPut (decode area) (message_in s) w₀ count w₁ → w₀.out.now ≡ out → w₀.at ≡ 0 → out' ≡ w₁.out.now → z ≡ sub_ℕ p.transferred p.detailed → AreaBooked s area a' → Sent s area out w₁.at z a' out'
sent_done {s} {area} {b} {p} m l w f g o e c = record {
  written = wrote_exact (wrote_at w.writes f g o) l;
  difference = e ∙ ap (λ (x : Position). sub_ℕ x.transferred x.detailed) m.leaves.same;
  area = c.area;
  output = wrote_over (wrote_at w.writes f g o) l;
  small = rw e (difference_small p.transferred p.detailed m.leaves.transferred_small m.leaves.detailed_small);
}

-- ---- the ways out of a message that passed 1 to 8

module _ (s area : List ℕ) (h : is_some (holds area) ≡ true) (b : Booking) {kept : List Judged} (k : Passes s (decode area).register b kept) (out : List ℕ) where
  pub sent_state : (n : ℕ) → n ≡ first_of (limit_stops (decode area) (some (message_in s))) → 0 < n → Answers (card_message s area out) n 0 (pos 0) area out
  sent_state n e p = message_state s area out (decode area) (holds_decode area h) (message_in s) k.none_holds k.read n (sym e) (ne_eqb n 0 (λ z. omega arith))

  module _ (z : 0 ≡ first_of (limit_stops (decode area) (some (message_in s)))) {r : ℕ} (w : Measured (message_text (decode area) (message_in s)) r) where
    pub sent_room : length out < r → Answers (card_message s area out) 16 0 (pos 0) area out
    sent_room m = message_room s area out (decode area) (holds_decode area h) (message_in s) k.none_holds k.read (sym z) (size_long w (length out) m)

    pub sent_made : {n₁ : ℕ} {d : ℤ} {a' out' : List ℕ} → r ≤ length out → length out < furthest → Sent s area out n₁ d a' out' → Answers (card_message s area out) 0 n₁ d a' out'
    sent_made m f c =
        message_accepted s area out (decode area) (holds_decode area h) (message_in s) k.none_holds k.read (sym z) (size_fits w (length out) m f) c.written c.difference c.area c.output c.small

-- none of 11 to 15 holds
pub state_none : (s area : List ℕ) (n : ℕ) → n ≡ first_of (limit_stops (decode area) (some (message_in s))) → n ≤ 0 → 0 ≡ first_of (limit_stops (decode area) (some (message_in s)))
state_none s area n e l = let z : n ≡ 0 = omega arith in sym z ∙ e

-- a text that is measured within the output fits
pub text_fits_lem : {text : List ℕ} {r : ℕ} (out : List ℕ) → Measured text r → r ≤ length out → length out < furthest → length text ≤ length out
text_fits_lem out w m f = size_fits w (length out) m f

-- ---- the ways out of a message to an area that holds an engine

-- by the engine's register
pub check_told : (s area g : List ℕ) (r : Checked) {kept : List Judged} → RegisterOf area g → CheckedAs s g r kept → CheckedAs s (decode area).register r kept
check_told s area g r f c = rw f.same at c

pub checked_refused : (s area : List ℕ) → is_some (holds area) ≡ true → (r : Checked) {kept : List Judged} → CheckedAs s (decode area).register r kept → (out : List ℕ) (k : Refusal) → r ≡ Err k → (n : ℕ) → n ≡ number_of k → Answers (card_message s area out) n 0 (pos 0) area out
checked_refused s area h r {kept} c out k e n f =
    rw f (message_input s area out (decode area) (holds_decode area h) (number_of k) (sym (refused_told s _ r kept c k e)) (ne_eqb (number_of k) 0 (λ z. omega (arith, refused_some s _ r kept c k e))))

-- its register, and room for 16 details
pub room_made : (area g : List ℕ) → RegisterOf area g → (j : Judged) → JudgingRoom g (replicate 16 j)
room_made area g r j = record { passes = r.passes; size = refl }

-- 10
pub message_no_engine : (s area out : List ℕ) (t : Bool) → t ≡ is_some (holds area) → t ≡ false → Answers (card_message s area out) 10 0 (pos 0) area out
message_no_engine s area out t u d = message_engine s area out (sym u ∙ d)

pub ruleset sending = (holds_told, measured, leaves_told, ready, booking_of_lem, booked_done, sent_done, sent_state, sent_made, state_none, text_fits_lem, room_made, check_told, checked_refused, passed_told, passed_room, message_no_engine)
