-- The conditions 11 to 15, as the code tests them: one law for each way out.
use Rattle.std.specs.Prelude.{◌≡◌, Bool, true, false, ◌&&◌, not, cond, List, ℕ, ◌+◌, ◌*◌, ◌^◌, ◌≤◌, ◌<◌, leb, eqb, length, Option, is_some}
use Rattle.std.proofs.Math.Path.{refl}
use Rattle.std.proofs.Common.{ap, ◌∙◌, arith}
use Rattle.std.proofs.Math.Bool.{and-false}
use Rattle.std.proofs.Math.Option.{some}
use borrow.Author.Tests.{le-leb, lt-leb}
use Rattle.rules.specs.Text.{is_text, every, any}
use Rattle.rules.specs.Engine.{Key, limit, same_reference}
use Rattle.rules.specs.Calls.{limit_stops, first_of, holds_of, misdated, own_reference, no_room}
use Rattle.rules.specs.Area.{decode}
use Rattle.laws.specs.Parts.{cut_length}
use Rattle.laws.specs.Tests.{holds_told}
use Rattle.position.specs.declared.Position as P
use Rattle.engine.specs.Totals.{TotalsOf, begun}
use Rattle.engine.specs.References.{of_bank}
use Rattle.engine.specs.Header.{HeaderOf}
use Rattle.engine.specs.declared.header.Header.{Header}
use Rattle.forms.specs.Spans.{span_of, SpanIn}
use Rattle.details.specs.Message.{message_in}
use Rattle.conditions.specs.Books.{Books, is_transfer, amount_if, misdated_by}
use Rattle.conditions.specs.declared.booking.Kind.{Kind}
use Rattle.conditions.specs.declared.booking.Kind.TheVariants.{Transfer as AnMt103, Order as AnMt101}
use Rattle.conditions.specs.declared.booking.Booking.{Booking}
use Rattle.state_conditions.specs.Limit.{over_by, over_is}

-- ---- single tests

-- what a message adds to its position
abbrev pub addition_by : Booking → P.Position
addition_by b = record { key = b.key; transferred = amount_if (is_transfer b.kind) b.amount; detailed = amount_if (not (is_transfer b.kind)) b.amount }

pub added_made : (b : Booking) {t d : ℕ} → t ≡ amount_if (is_transfer b.kind) b.amount → d ≡ amount_if (not (is_transfer b.kind)) b.amount → ◌≡◌ {A = P.Position} (record { key = b.key; transferred = t; detailed = d }) (addition_by b)
added_made b e f = rw (e, f)

-- 14 and 15
unfoldable pub rest_number : ℕ → Option P.Position → Booking → ℕ
rest_number n o b = cond (leb 32 n && not (is_some o)) 14 (cond (over_by (begun b.key o) b) 15 0)

-- 11, by the kind that a match found
module _ (k : Kind) (date day : ℕ) where
  pub misdated_transfer : k ≡ AnMt103 → not (eqb date day) ≡ misdated_by (is_transfer k) date day
  misdated_transfer t = rw t refl

  pub misdated_order : (n : ℕ) → k ≡ AnMt101 n → not (leb date day) ≡ misdated_by (is_transfer k) date day
  misdated_order n t = rw t refl

  pub misdated_before : is_transfer k ≡ false → date ≤ day → false ≡ misdated_by (is_transfer k) date day
  misdated_before t l = rw (t, le-leb _ _ l) refl

  pub misdated_after : is_transfer k ≡ false → day < date → true ≡ misdated_by (is_transfer k) date day
  misdated_after t l = rw (t, lt-leb _ _ l) refl

pub total_within : (v w : ℕ) → v + w ≤ limit → false ≡ not (leb (v + w) limit)
total_within v w h = rw (le-leb _ _ h) refl

pub total_above : (v w : ℕ) → limit < v + w → true ≡ not (leb (v + w) limit)
total_above v w h = rw (lt-leb _ _ h) refl

module _ (b : Booking) where
  pub amount_own : b.kind ≡ AnMt103 → b.amount ≡ amount_if (is_transfer b.kind) b.amount
  amount_own t = rw t refl

  pub amount_none : (n : ℕ) → b.kind ≡ AnMt101 n → 0 ≡ amount_if (is_transfer b.kind) b.amount
  amount_none n t = rw t refl

  pub sum_none : b.kind ≡ AnMt103 → 0 ≡ amount_if (not (is_transfer b.kind)) b.amount
  sum_none t = rw t refl

  pub sum_own : (n : ℕ) → b.kind ≡ AnMt101 n → b.amount ≡ amount_if (not (is_transfer b.kind)) b.amount
  sum_own n t = rw t refl

  amount_small : (t : Bool) → b.amount ≤ 16 * 10 ^ 16 → amount_if t b.amount ≤ 16 * 10 ^ 16
  amount_small true h = h
  amount_small false h = omega arith

  pub added_small : {v : ℕ} → v ≡ amount_if (is_transfer b.kind) b.amount → b.amount ≤ 16 * 10 ^ 16 → v ≤ 16 * 10 ^ 16
  added_small e h = rw e (amount_small (is_transfer b.kind) h)

  pub summed_small : {v : ℕ} → v ≡ amount_if (not (is_transfer b.kind)) b.amount → b.amount ≤ 16 * 10 ^ 16 → v ≤ 16 * 10 ^ 16
  summed_small e h = rw e (amount_small (not (is_transfer b.kind)) h)

module _ (t : P.Position) (b : Booking) {v : ℕ} (e : v ≡ amount_if (is_transfer b.kind) b.amount) (q : Bool) (u : q ≡ not (leb (t.transferred + v) limit)) where
  pub over_first : q ≡ true → true ≡ over_by t b
  unfolding over_by
  over_first d = rw (← e, ← u, d) refl

  pub over_second : q ≡ false → {w : ℕ} → w ≡ amount_if (not (is_transfer b.kind)) b.amount → {r : Bool} → r ≡ not (leb (t.detailed + w) limit) → r ≡ over_by t b
  unfolding over_by
  over_second d f g = g ∙ rw (← e, ← u, d, f) refl

module _ (n : ℕ) (t : Option P.Position) (b : Booking) (q : Bool) (u : q ≡ over_by (begun b.key t) b) where
  module _ (o : is_some t ≡ true) where
    pub rest_open_over : q ≡ true → 15 ≡ rest_number n t b
    unfolding rest_number over_by
    rest_open_over d = rw (o, and-false, ← u, d) refl

    pub rest_open : q ≡ false → 0 ≡ rest_number n t b
    unfolding rest_number over_by
    rest_open d = rw (o, and-false, ← u, d) refl

  module _ (o : is_some t ≡ false) where
    pub rest_full : 32 ≤ n → 14 ≡ rest_number n t b
    unfolding rest_number
    rest_full l = rw (o, le-leb _ _ l) refl

    module _ (l : n < 32) where
      pub rest_over : q ≡ true → 15 ≡ rest_number n t b
      unfolding rest_number over_by
      rest_over d = rw (o, lt-leb _ _ l, ← u, d) refl

      pub rest_none : q ≡ false → 0 ≡ rest_number n t b
      unfolding rest_number over_by
      rest_none d = rw (o, lt-leb _ _ l, ← u, d) refl

-- ---- all of them

module _ (s : List ℕ) (b : Booking) (k : Books s (message_in s) b) where
  -- field 20 lies within the message, is short and a text
  pub field_in : SpanIn s b.reference
  field_in = record { order = k.order; room = k.room }

  pub field_short : {f : List ℕ} → f ≡ span_of s b.reference → length f ≤ 16
  field_short e = rw e (omega (arith, k.short, cut_length s b.reference.start b.reference.end k.room))

  pub field_text : {f : List ℕ} → f ≡ span_of s b.reference → every is_text f ≡ true
  field_text e = rw e k.text

  -- a reference of the bank with it is the message's own
  pub used_is : (area : List ℕ) {bank : ℕ} {f g : List ℕ} {q : Bool} → bank ≡ b.key.bank → g ≡ f → f ≡ span_of s b.reference → q ≡ any (same_reference (of_bank bank g)) (decode area).references
      → q ≡ any (same_reference (own_reference (message_in s))) (decode area).references
  used_is area h i j e = e ∙ rw (h, i, j, ap (λ (y : Key). y.bank) k.key, k.reference) refl

module _ (s area : List ℕ) (b : Booking) (k : Books s (message_in s) b) (x : Header) (n : HeaderOf area x) where
  day_is : misdated (decode area).day (message_in s) ≡ misdated_by (is_transfer b.kind) b.key.date x.day
  day_is = rw n.day (k.dated (decode area).day)

  module _ (t : Bool) (u : t ≡ misdated_by (is_transfer b.kind) b.key.date x.day) where
    pub state_day : t ≡ true → 11 ≡ first_of (limit_stops (decode area) (some (message_in s)))
    unfolding first_of limit_stops holds_of
    state_day d = rw (day_is, ← u, d) refl

    module _ (d : t ≡ false) (q : Bool) (v : q ≡ any (same_reference (own_reference (message_in s))) (decode area).references) where
      pub state_used : q ≡ true → 12 ≡ first_of (limit_stops (decode area) (some (message_in s)))
      unfolding first_of limit_stops holds_of
      state_used w = rw (day_is, ← u, d, ← v, w) refl

      module _ (w : q ≡ false) where
        pub state_full : 64 ≤ x.references → 13 ≡ first_of (limit_stops (decode area) (some (message_in s)))
        unfolding first_of limit_stops holds_of
        state_full l = rw (day_is, ← u, d, ← v, w, ← n.references, le-leb _ _ l) refl

        pub state_rest : x.references < 64 → (y : Option P.Position) → TotalsOf (decode area).positions b.key y → {r : ℕ} → r ≡ rest_number x.positions y b → r ≡ first_of (limit_stops (decode area) (some (message_in s)))
        unfolding first_of limit_stops holds_of rest_number no_room
        state_rest l y g e = e ∙ rw (day_is, ← u, d, ← v, w, ← n.references, lt-leb _ _ l, ← over_is s area b k y g, ← k.key, ← g.opens, ← n.positions) refl

pub ruleset stops = (holds_told, misdated_transfer, misdated_order, total_within, total_above, amount_own, amount_none, sum_none, sum_own, added_small, summed_small, over_first, over_second, rest_open_over, rest_open, rest_full, rest_over, rest_none, state_day, state_used, state_full, state_rest)
