-- The check of a message, one law for each way that the code goes.
use Rattle.std.specs.Prelude.{◌≡◌, refl, Bool, true, false, List, ℕ, ◌-◌, ◌≤◌, ◌<◌, get_or, take, drop, map, Ok, Err}
use Rattle.std.specs.Prelude as R
use Rattle.std.proofs.Math.Path.{sym}
use Rattle.std.proofs.Common.{ap, ◌∙◌, subst}
use Rattle.std.proofs.Math.Bool.{and-true, and-false}
use Rattle.std.proofs.Math.Option.{Option, none, some}
use native.Mathlib.Omega.{arith}
use Rattle.std.proofs.Math.ListN.{length}
use Rattle.rules.specs.Text.{ascii, equal, then, twice}
use Rattle.rules.specs.Lines.{Line, framed, type, sender, receiver, body}
use Rattle.rules.specs.Forms.{take_rows, order_rows, message20}
use Rattle.rules.specs.Engine.{slashed}
use Rattle.rules.specs.Messages as M
use Rattle.rules.specs.Messages.{Message, mt103, mt101, field20, details_of, reference_of, date_of, first_date, read_transfer, read_order, read, past}
use Rattle.rules.specs.Calls.{form_stops, first_of, addressed, input_stops}
use Rattle.laws.specs.Parts.{cut, from}
use Rattle.engine_laws.specs.Accepted.{Has, transfer_has, order_has}
use Rattle.forms.specs.Table.{table, part}
use Rattle.forms.specs.Spans.{span_of, no_span, SpanIn, within_at, within_order, lines_at, span_line}
use Rattle.forms.specs.Fields.{Behind, behind_in, behind_bytes}
use Rattle.forms.specs.Rows.{RowsAt}
use Rattle.forms.specs.Transfers.{TransferIn, transfer_in}
use Rattle.forms.specs.declared.rows.Span.{Span}
use Rattle.forms.specs.declared.transfer.Transfer as T
use Rattle.rule_laws.specs.Lines.{body_from}
use Rattle.register.specs.Passed.{text_first, temporary_at_lem}
use Rattle.verdict.specs.Details.{JudgingRoom}
use Rattle.verdict.specs.declared.detail.Judged.{Judged}
use Rattle.field_conditions.specs.Stops.{transfer_stop, transfer_stops, low_of}
use Rattle.conditions.specs.Walk.{named, NamedFirst, named_first, alike, judged_twice}
use Rattle.conditions.specs.Lowest.{lowest_any}
use Rattle.conditions.specs.Tally.{TallyTold, DetailsTallied, TallyAt}
use Rattle.conditions.specs.Order.{order_stop, order_stops, order_many, order_few}
use Rattle.conditions.specs.Books.{date_six, transfer_books, order_books, booking_of}
use Rattle.conditions.specs.Answers.{Checked, Parts, temporary_in, CheckedBy, CheckedAs}
use Rattle.conditions.specs.declared.booking.Kind.TheVariants.{Transfer as AnMt103, Order as AnMt101}
use Rattle.conditions.specs.declared.booking.Booking.{Booking}
use Rattle.conditions.specs.declared.tally.Tally.{Tally}
use Rattle.refusal.specs.Numbers.{number_of, number_some}
use Rattle.refusal.specs.declared.Refusal.{Refusal}
use Rattle.refusal.specs.declared.Refusal.TheVariants.{NotFramed, NotAddressed, NotInForm}

-- nothing was read: 3
unread : (temporary : List ℕ) → first_of (form_stops temporary none) ≡ 3
unfolding form_stops first_of
unread temporary = refl

formless : (s text : List ℕ) (o : Option Message) {kept : List Judged} → o ≡ none → CheckedBy s text o (Err NotInForm) kept
formless s text o e = record { number = rw e (sym (unread (temporary_in text))); parts = omega arith }

-- field 20, behind its line's first four bytes
field_20 : (s : List ℕ) (l : List Span) (n : ℕ) (q : Span) → message20 < n → SpanIn s (get_or l message20 no_span) → Behind (get_or l message20 no_span) 4 q → span_of s q ≡ field20 (lines_at s l n)
field_20 s l n q h w b = rw (span_line s l n message20 h) (behind_bytes s _ 4 w q b)

-- ---- an MT103

-- r answers of an MT103, by any register with this temporary account and whatever is kept: it has no details
pub record TransferChecked (temporary s : List ℕ) (r : Checked) : Type 0 where
  pub with : (text : List ℕ) (kept : List Judged) → temporary ≡ temporary_in text → CheckedBy s text (read_transfer s) r kept

pub transfer_formless : (s temporary : List ℕ) → read_transfer s ≡ none → TransferChecked temporary s (Err NotInForm)
transfer_formless s temporary h = record { with = λ text kept v. formless s text (read_transfer s) h }

module _ (s temporary : List ℕ) (t : T.Transfer) (w : TransferIn s t) where
  module _ where
    transfer_read : read_transfer s ≡ some (mt103 (transfer_in s t))
    transfer_read = w.same

    transfer_its : Has s (mt103 (transfer_in s t))
    transfer_its = transfer_has s _ transfer_read

    pub transfer_date : t.date < 1000000
    unfolding date_of
    transfer_date = date_six s _ transfer_its

    module _ (k : ℕ) (u : k ≡ transfer_stop s temporary t) where
      transfer_number : (text : List ℕ) → temporary ≡ temporary_in text → k ≡ first_of (form_stops (temporary_in text) (read_transfer s))
      transfer_number text v = rw transfer_read (u ∙ transfer_stops s temporary t ∙ ap (λ (x : List ℕ). first_of (form_stops x (some (mt103 (transfer_in s t))))) v)

      pub transfer_stopped : (r : Refusal) → number_of r ≡ k → TransferChecked temporary s (Err r)
      transfer_stopped r e = record { with = λ text kept v. record { number = e ∙ transfer_number text v; parts = number_some r } }

      pub transfer_good : k ≡ 0 → (q : Span) → Behind (get_or t.spans message20 no_span) 4 q → (b : Booking)
          → b ≡ booking_of s AnMt103 q t.date t.amount → TransferChecked temporary s (Ok b)
      unfolding reference_of details_of
      transfer_good z q d b e =
          let f : SpanIn s (get_or t.spans message20 no_span) = within_at s t.spans message20 w.within in record {
            with = λ text kept v. record {
              number = sym z ∙ transfer_number text v;
              parts = record {
                message = mt103 (transfer_in s t);
                same = transfer_read;
                books = rw e (transfer_books s (transfer_in s t) transfer_its q (behind_in s _ 4 f q d) (field_20 s t.spans 23 q (omega arith) f d) w.small);
                count = rw e;
                few = rw e (omega arith);
                room = rw e (omega arith);
                each = λ i l. absurd (let n : i < 0 = rw e at l in omega arith);
              };
            };
          }

-- ---- an MT101

order_rows_lem : part 0 1 ≡ order_rows
unfolding part table
order_rows_lem = refl

-- the conditions as the tally tells them
all_stops : (temporary bank : List ℕ) (rows : List Line) (ds : List M.Detail) (n low : ℕ) (b t : Bool) → n ≡ length ds → low ≡ lowest_any bank (first_date ds) ds → b ≡ slashed (field20 rows) → (length ds ≤ 16 → t ≡ twice alike ds)
    → order_stop n b low t ≡ first_of (form_stops temporary (some (mt101 record { sender = bank; rows = rows; details = ds })))
all_stops temporary bank rows ds n low b t e f g h = rw (e, f, g) (order_many (length ds) (slashed (field20 rows)) (lowest_any bank (first_date ds) ds) t (twice alike ds) h ∙ order_stops temporary bank rows ds)

pub order_rowless : (s text : List ℕ) {kept : List Judged} → take_rows (part 0 1) (from s 23) ≡ none → CheckedBy s text (read_order s) (Err NotInForm) kept
unfolding read_order
order_rowless s text h = let e : take_rows order_rows (body s) ≡ none = rw (order_rows_lem, body_from) at h in formless s text (read_order s) (rw e)

module _ (s text : List ℕ) (l : List Span) (next : ℕ) (w : RowsAt s 23 0 1 l next) where
  -- the message of some details
  abbrev order : List M.Detail → M.Order
  order ds = record { sender = sender s; rows = lines_at s l 1; details = ds }

  module _ {o : R.Option Tally} {kept : List Judged} (v : TallyAt s text next o kept) where
    order_read : read_order s ≡ then (M.details 4096 (from s next)) (λ ds. some (mt101 (order ds)))
    unfolding read_order
    order_read =
        let e : take_rows order_rows (body s) ≡ some record { rows = lines_at s l 1; others = from s next } = rw (order_rows_lem, body_from) at w.same in
        rw e

    pub order_formless : o ≡ R.None → CheckedBy s text (read_order s) (Err NotInForm) kept
    order_formless k = formless s text (read_order s) (order_read ∙ (rw (v.none_there k)))

    module _ (t : Tally) (k : o ≡ R.Some t) where
      abbrev all : DetailsTallied s text next t kept
      all = v.all_there t k

      abbrev its : TallyTold s text all.all t kept
      its = all.told

      pub order_named : NamedFirst s kept t.count
      order_named = rw its.count (named_first text s all.all kept its.room.size its.judged)

      is_order : read_order s ≡ some (mt101 (order all.all))
      is_order = order_read ∙ (rw all.read)

      order_its : Has s (mt101 (order all.all))
      order_its = order_has s _ is_order

      pub order_date : t.date < 1000000
      unfolding date_of
      order_date = rw its.date (date_six s _ order_its)

      module _ (c : ℕ) (u : c ≡ order_stop t.count (slashed (past ":20:" (span_of s (get_or l message20 no_span)))) (low_of t.low) (twice equal (map (named s) (take t.count kept)))) where
        order_number : c ≡ first_of (form_stops (temporary_in text) (read_order s))
        order_number =
            u
            ∙ all_stops (temporary_in text) (sender s) (lines_at s l 1) all.all t.count (low_of t.low) (slashed (past ":20:" (span_of s (get_or l message20 no_span)))) (twice equal (map (named s) (take t.count kept))) its.count its.low (rw (span_line s l 1 message20 (omega arith)))
            (λ l. ap (λ (n : ℕ). twice equal (map (named s) (take n kept))) its.count ∙ judged_twice text s all.all kept its.room.size its.judged l)
            ∙ ap (λ (o : Option Message). first_of (form_stops (temporary_in text) o)) (sym is_order)

        pub order_stopped : (r : Refusal) → number_of r ≡ c → CheckedBy s text (read_order s) (Err r) kept
        order_stopped r e = record { number = e ∙ order_number; parts = number_some r }

        pub order_count : c ≡ 0 → t.count ≤ 16
        order_count z = order_few t.count (slashed (past ":20:" (span_of s (get_or l message20 no_span)))) (low_of t.low) (twice equal (map (named s) (take t.count kept))) (sym u ∙ z)

        pub order_good : c ≡ 0 → (q : Span) → Behind (get_or l message20 no_span) 4 q → (b : Booking)
            → b ≡ booking_of s (AnMt101 t.count) q t.date t.sum → CheckedBy s text (read_order s) (Ok b) kept
        unfolding reference_of details_of
        order_good z q d b e =
            let few : t.count ≤ 16 = order_count z in
            let f : SpanIn s (get_or l message20 no_span) = within_at s l message20 w.within in record {
              number = sym z ∙ order_number;
              parts = record {
                message = mt101 (order all.all);
                same = is_order;
                books = rw e (order_books s (order all.all) order_its q (behind_in s _ 4 f q d) (field_20 s l 1 q (omega arith) f d) its.date its.sum (omega (arith, its.bound)));
                count = rw e its.count;
                few = rw e few;
                room = rw e (omega (arith, few, its.room.size));
                each = λ i l. (let n : i < t.count = rw e at l in its.judged.each i (rw (← its.count) n) (omega arith));
              };
            }

-- ---- the first line

pub type_is : (s t : List ℕ) (r : Bool) → r ≡ equal (take (3 - 0) (drop 0 s)) t → r ≡ equal (type s) t
unfolding type
type_is s t r e = e

module _ (s : List ℕ) (b : Bool) (u : b ≡ equal (take (21 - 13) (drop 13 s)) (ascii "BNBGBGSD")) where
  received : equal (receiver s) (ascii "BNBGBGSD") ≡ b
  unfolding receiver
  received = sym u

  pub addressed_not : b ≡ false → false ≡ addressed s
  unfolding addressed
  addressed_not h = rw (received, h, and-false)

  module _ (h : b ≡ true) (q : Bool) (v : q ≡ equal (type s) (ascii "101")) where
    pub addressed_101 : q ≡ true → true ≡ addressed s
    unfolding addressed
    addressed_101 k = rw (← v, k, received, h)

    pub addressed_103 : q ≡ false → (r : Bool) → r ≡ equal (type s) (ascii "103") → r ≡ addressed s
    unfolding addressed
    addressed_103 k r e = rw (← v, k, ← e, received, h, and-true)

-- ---- the whole message

-- the temporary account stands in front of a register that passes
module _ (text : List ℕ) {kept : List Judged} (r : JudgingRoom text kept) where
  pub temporary_room : 22 ≤ length text
  temporary_room = omega (arith, text_first text r.passes)

  pub temporary_is : (t : List ℕ) → t ≡ take (22 - 0) (drop 0 text) → t ≡ temporary_in text
  unfolding cut
  temporary_is t e = e ∙ sym (temporary_at_lem text r.passes)

module _ (s text : List ℕ) (b : Bool) (u : b ≡ framed s) where
  pub message_unframed : b ≡ false → {kept : List Judged} → CheckedAs s text (Err NotFramed) kept
  unfolding input_stops first_of
  message_unframed h = record { number = rw (← u, h); parts = omega arith }

  module _ (h : b ≡ true) (c : Bool) (v : c ≡ addressed s) where
    pub message_unaddressed : c ≡ false → {kept : List Judged} → CheckedAs s text (Err NotAddressed) kept
    unfolding input_stops first_of
    message_unaddressed k = record { number = rw (← u, h, ← v, k); parts = omega arith }

    module _ (k : c ≡ true) where
      form_stops_lem : first_of (form_stops (temporary_in text) (read s)) ≡ first_of (input_stops (temporary_in text) s)
      unfolding input_stops form_stops first_of
      form_stops_lem = rw (← u, h, ← v, k)

      module _ (q : Bool) (w : q ≡ equal (type s) (ascii "103")) (r : Checked) {kept : List Judged} where
        as_read : (o : Option Message) → o ≡ read s → CheckedBy s text o r kept → CheckedAs s text r kept
        as_read o e j = record {
          number = j.number ∙ ap (λ (x : Option Message). first_of (form_stops (temporary_in text) x)) e ∙ form_stops_lem;
          parts = subst (λ (x : Option Message). Parts s text x kept r) e j.parts;
        }

        pub message_transfer : q ≡ true → (t : List ℕ) → t ≡ temporary_in text → TransferChecked t s r → CheckedAs s text r kept
        unfolding read
        message_transfer z t e j = as_read (read_transfer s) (rw (← w, z)) (j.with text kept e)

        pub message_order : q ≡ false → CheckedBy s text (read_order s) r kept → CheckedAs s text r kept
        unfolding read
        message_order z j = as_read (read_order s) (rw (← w, z)) j

pub ruleset checking = (within_at, within_order, transfer_formless, transfer_stopped, transfer_date, transfer_good, order_rowless, order_formless, order_named, order_stopped, order_date, order_count, order_good, type_is, addressed_not, addressed_101, addressed_103, message_unframed, message_unaddressed, message_transfer, message_order)
