-- What booking a message needs of it, read off its bytes.
use Rattle.std.specs.Prelude.{◌≡◌, refl, Bool, true, false, not, List, ℕ, ◌-◌, ◌*◌, ◌^◌, ◌≤◌, ◌<◌, leb, eqb, length, take, drop}
use Rattle.std.proofs.Common.{sym, arith, leb-true}
use Rattle.rules.specs.Text.{between, is_text, every, run, big_endian}
use Rattle.rules.specs.Lines.{sender}
use Rattle.rules.specs.Messages.{Message, mt103, mt101, Transfer, Order, reference_of, details_of, date_of, transferred_by, detailed_by, sum_of_amounts, first_date}
use Rattle.rules.specs.Calls.{misdated, bank_of, key_of}
use Rattle.laws.specs.Parts.{from, cut_length}
use Rattle.laws.specs.Tests.{and_left, and_right}
use Rattle.rule_laws.specs.Dates.{date_small}
use Rattle.engine_laws.specs.Accepted.{Has}
use Rattle.forms.specs.Spans.{span_of, SpanIn}
use Rattle.forms.specs.declared.rows.Span.{Span}
use Rattle.position.specs.Values.{key_value}
use Rattle.conditions.specs.declared.booking.Kind.{Kind}
use Rattle.conditions.specs.declared.booking.Kind.TheVariants.{Transfer as AnMt103, Order as AnMt101}
use Rattle.conditions.specs.declared.booking.Booking.{Booking}

-- is it an MT103?
abbrev pub is_transfer : Kind → Bool
is_transfer AnMt103 = true
is_transfer (AnMt101 n) = false

-- how many details a message of the kind has
abbrev pub count_of : Kind → ℕ
count_of AnMt103 = 0
count_of (AnMt101 n) = n

-- an amount where the test holds
abbrev pub amount_if : Bool → ℕ → ℕ
amount_if true v = v
amount_if false v = 0

-- 11, by the kind of message
abbrev pub misdated_by : Bool → ℕ → ℕ → Bool
misdated_by true date day = not (eqb date day)
misdated_by false date day = not (leb date day)

-- an MT103 of this amount, and an MT101
pub record IsTransfer (m : Message) (amount : ℕ) : Type 0 where
  pub transfer : Transfer
  pub same : m ≡ mt103 transfer
  pub sum : transfer.amount ≡ amount

pub record IsOrder (m : Message) : Type 0 where
  pub order : Order
  pub same : m ≡ mt101 order

abbrev pub KindOf : Message → ℕ → Bool → Type 0
KindOf m amount true = IsTransfer m amount
KindOf m amount false = IsOrder m

-- the booking of a message: the sender is the bank of its position's key
abbrev pub booking_of : List ℕ → Kind → Span → ℕ → ℕ → Booking
booking_of s kind reference date amount = record { key = record { bank = big_endian (take 8 (drop 4 s)); date = date }; amount = amount; reference = reference; kind = kind }

pub record Books (s : List ℕ) (m : Message) (b : Booking) : Type 0 where
  pub key : key_value b.key ≡ key_of m
  pub reference : span_of s b.reference ≡ reference_of m
  pub order : b.reference.start ≤ b.reference.end
  pub room : b.reference.end ≤ length s
  pub short : b.reference.end - b.reference.start ≤ 16
  pub text : every is_text (span_of s b.reference) ≡ true
  pub transferred : transferred_by m ≡ amount_if (is_transfer b.kind) b.amount
  pub detailed : detailed_by m ≡ amount_if (not (is_transfer b.kind)) b.amount
  pub dated : (day : ℕ) → misdated day m ≡ misdated_by (is_transfer b.kind) b.key.date day
  pub small : b.amount ≤ 16 * 10 ^ 16
  pub kind : KindOf m b.amount (is_transfer b.kind)

-- ---- of any message that was read

module _ (s : List ℕ) (m : Message) (h : Has s m) where
  bank_is : big_endian (take 8 (drop 4 s)) ≡ bank_of m
  unfolding sender from
  bank_is = rw h.sent refl

  pub date_six : date_of m < 1000000
  date_six = date_small (date_of m) h.date

  module _ (p : Span) (w : SpanIn s p) (e : span_of s p ≡ reference_of m) where
    reference_run : run is_text 1 16 (span_of s p) ≡ true
    reference_run = rw e h.reference

    reference_text : every is_text (span_of s p) ≡ true
    unfolding run
    reference_text = and_right (between 1 16 (length (span_of s p))) _ reference_run

    reference_short : p.end - p.start ≤ 16
    unfolding run
    reference_short = rw (cut_length s p.start p.end w.room) at (leb-true (length (span_of s p)) 16 (and_right (leb 1 (length (span_of s p))) _ (and_left _ _ reference_run)))

    -- the booking has the message's reference, and of the rest what its kind says
    books : (t : Kind) (date amount : ℕ) → date ≡ date_of m → transferred_by m ≡ amount_if (is_transfer t) amount → detailed_by m ≡ amount_if (not (is_transfer t)) amount → ((day : ℕ) → misdated day m ≡ misdated_by (is_transfer t) date day) → amount ≤ 16 * 10 ^ 16 → KindOf m amount (is_transfer t)
        → Books s m (booking_of s t p date amount)
    books t date amount d f g i l k = record {
      key = rw (bank_is, d);
      reference = e;
      order = w.order;
      room = w.room;
      short = reference_short;
      text = reference_text;
      transferred = f;
      detailed = g;
      dated = i;
      small = l;
      kind = k;
    }

-- ---- an MT103, and an MT101

pub transfer_books : (s : List ℕ) (t : Transfer) → Has s (mt103 t) → (p : Span) → SpanIn s p → span_of s p ≡ reference_of (mt103 t) → t.amount < 10 ^ 16
    → Books s (mt103 t) (booking_of s AnMt103 p t.date t.amount)
unfolding date_of transferred_by detailed_by details_of sum_of_amounts misdated
transfer_books s t h p w e l = books s (mt103 t) h p w e AnMt103 t.date t.amount refl refl refl (λ day. refl) (omega arith) (record { transfer = t; same = refl; sum = refl })

pub order_books : (s : List ℕ) (o : Order) → Has s (mt101 o) → (p : Span) → SpanIn s p → span_of s p ≡ reference_of (mt101 o) → {date sum count : ℕ} → date ≡ first_date o.details → sum ≡ sum_of_amounts o.details → sum ≤ 16 * 10 ^ 16
    → Books s (mt101 o) (booking_of s (AnMt101 count) p date sum)
unfolding date_of transferred_by detailed_by details_of misdated
order_books s o h p w e {date} {sum} {count} d f l = books s (mt101 o) h p w e (AnMt101 count) date sum d refl (sym f) (λ day. rw d refl) l (record { order = o; same = refl })

-- made of a bank that was read
pub booking_made : (s : List ℕ) (t : Kind) (p : Span) (v date amount : ℕ) → v ≡ big_endian (take 8 (drop 4 s))
    → ◌≡◌ {A = Booking} (record { key = record { bank = v; date = date }; amount = amount; reference = p; kind = t }) (booking_of s t p date amount)
booking_made s t p v date amount e = rw e
