-- The text of a message that is booked, off its bytes and the area.
use Rattle.std.specs.Prelude.{◌≡◌, Bool, not, cond, ℕ, ◌+◌, ◌≤◌, leb, Option}
use Rattle.std.proofs.Math.Path.{refl, ap}
use Rattle.std.proofs.Common.{◌∙◌, arith}
use Rattle.std.proofs.Math.Bool.{true, false}
use mathlib.Core.List.{List, [], ◌++◌, append_assoc}
use Rattle.std.proofs.Math.ListN.{length}
use Rattle.rules.specs.Messages.{Message, date_of}
use Rattle.rules.specs.Register.{register_of}
use Rattle.rules.specs.Engine.{Engine, Position, has_details}
use Rattle.rules.specs.Verdict.{is_returned, is_listed199}
use Rattle.rules.specs.Written.{mt199s, parts_of, verdicts, returns}
use Rattle.rules.specs.Calls.{bank_of, has_verdict, position_after, returned_details, listed_details, message_book, postings, message_text, parts_written, messages_written}
use Rattle.rules.specs.Area.{decode}
use Rattle.put.specs.declared.parts.Writer.{Writer}
use Rattle.put.specs.Writes.{Writes, writes_then}
use Rattle.engine.specs.Totals.{TotalsOf, begun}
use Rattle.engine.specs.Header.{HeaderOf}
use Rattle.engine.specs.Texts.{RegisterOf}
use Rattle.engine.specs.declared.header.Header.{Header}
use Rattle.details.specs.Message.{message_in}
use Rattle.conditions.specs.Books.{Books, is_transfer, amount_if}
use Rattle.conditions.specs.declared.booking.Booking.{Booking}
use Rattle.verdict.specs.Details.{JudgedIn}
use Rattle.position.specs.Values.{position_value}
use Rattle.position.specs.declared.Position as P
use Rattle.verdict.specs.declared.detail.Judged.{Judged}
use Rattle.detail_lines.specs.Chosen.{chosen_from, chosen_all, chosen_many}
use Rattle.detail_lines.specs.Postings.{book_by}
use Rattle.outgoing_number.specs.declared.Outgoing.{Outgoing}
use Rattle.message_text.specs.Parts.{PartsOf, PartsPut, listed_of}
use Rattle.message_text.specs.Returns.{ReturnsPut}
use Rattle.message_text.specs.Postings.{transfer_is, order_is}

-- ---- the position as the message leaves it

pub record AfterOf (b : Booking) (x p : P.Position) : Type 0 where
  pub key : p.key ≡ b.key
  pub transferred : p.transferred ≡ x.transferred + amount_if (is_transfer b.kind) b.amount
  pub detailed : p.detailed ≡ x.detailed + amount_if (not (is_transfer b.kind)) b.amount

-- a part of an amount is no more than it
pub amount_part : (t : Bool) (v : ℕ) → amount_if t v ≤ v
amount_part true v = omega arith
amount_part false v = omega arith

-- ---- does an MT199 follow?

abbrev pub verdict_follows : Bool → ℕ → Bool
verdict_follows true detailed = leb 1 detailed
verdict_follows false detailed = true

pub transfer_follows : (t : Bool) (detailed : ℕ) → t ≡ true → leb 1 detailed ≡ verdict_follows t detailed
transfer_follows t detailed e = rw e

follows_is : (s : List ℕ) (b : Booking) → Books s (message_in s) b → (p : P.Position) → has_verdict (message_in s) (position_value p) ≡ verdict_follows (is_transfer b.kind) p.detailed
unfolding has_verdict has_details
follows_is s b k p = go (is_transfer b.kind) refl
  where
    go : (t : Bool) → is_transfer b.kind ≡ t → has_verdict (message_in s) (position_value p) ≡ verdict_follows t p.detailed
    go true e = rw (transfer_is s b k e).same
    go false e = rw (order_is s b k e).same

-- ---- how many parts

-- r parts, the listed of these details being in them
pub record PartsFor (b : Booking) (p : P.Position) (kept : List Judged) (r : ℕ) : Type 0 where
  pub value : r ≡ cond (verdict_follows (is_transfer b.kind) p.detailed) (parts_of (listed_of kept)) 0
  pub few : r ≤ 2

module _ (b : Booking) (p : P.Position) (kept : List Judged) (v : Bool) (f : v ≡ verdict_follows (is_transfer b.kind) p.detailed) where
  pub parts_some : v ≡ true → {r : ℕ} → PartsOf (listed_of kept) r → PartsFor b p kept r
  parts_some e u = record { value = u.value ∙ rw (← f, e); few = u.few }

  pub parts_none : v ≡ false → PartsFor b p kept 0
  parts_none e = record { value = rw (← f, e); few = omega arith }

-- as many as the paper has
parts_told : (a s : List ℕ) (b : Booking) → Books s (message_in s) b → (p : P.Position) → position_value p ≡ position_after (decode a) (message_in s) → (kept : List Judged) → JudgedIn (decode a).register s kept → {r : ℕ} → PartsFor b p kept r → r ≡ parts_written (decode a) (message_in s)
unfolding parts_written
parts_told a s b k p q kept j w =
    let f : has_verdict (message_in s) (position_after (decode a) (message_in s)) ≡ verdict_follows (is_transfer b.kind) p.detailed = rw (← q) (follows_is s b k p) in
    w.value ∙ rw (f, chosen_many is_listed199 (decode a).register s kept j) refl

-- ---- the position as the message leaves it is the paper's

pub after_is : (a s : List ℕ) (b : Booking) → Books s (message_in s) b → (x : Option P.Position) → TotalsOf (decode a).positions b.key x → (p : P.Position) → AfterOf b (begun b.key x) p → position_value p ≡ position_after (decode a) (message_in s)
unfolding position_after
after_is a s b k x y p q = rw (q.key, q.transferred, q.detailed, y.transferred, y.detailed, ← k.transferred, ← k.detailed, k.key)

-- ---- the text

-- it was written, and the count then kept is the engine's with the messages written
pub record TextPut (e : Engine) (m : Message) (old : Writer) (count : ℕ) (new : Writer) : Type 0 where
  pub writes : Writes (message_text e m) old new
  pub counted : count ≡ e.count + messages_written e m

module _ (e : Engine) (m : Message) where
  -- as many parts as follow
  verdict_is_lem : (t : Bool) → cond t (verdicts e.day e.count (position_after e m) (listed_details e m)) []
      ≡ mt199s (cond t (parts_of (length (listed_details e m))) 0) e.day e.count (position_after e m) 1 (cond t (parts_of (length (listed_details e m))) 0) (listed_details e m)
  unfolding verdicts mt199s
  verdict_is_lem true = refl
  verdict_is_lem false = refl

  -- posting lines, and behind them what is due
  text_is : message_text e m
      ≡ postings (register_of e.register) (message_book e m) m ++ (mt199s (parts_written e m) e.day e.count (position_after e m) 1 (parts_written e m) (listed_details e m) ++ returns (message_book e m) (e.count + parts_written e m) (returned_details e m))
  unfolding message_text parts_written
  text_is =
      ap (λ (l : List ℕ). postings (register_of e.register) (message_book e m) m ++ l ++ returns (message_book e m) (e.count + parts_written e m) (returned_details e m)) (verdict_is_lem (has_verdict m (position_after e m)))
      ∙ append_assoc (postings (register_of e.register) (message_book e m) m) (mt199s (parts_written e m) e.day e.count (position_after e m) 1 (parts_written e m) (listed_details e m)) (returns (message_book e m) (e.count + parts_written e m) (returned_details e m))

module _ (a s text : List ℕ) (g : RegisterOf a text) (kept : List Judged) (j : JudgedIn (decode a).register s kept) where
  pub judged_here : JudgedIn text s kept
  judged_here = rw g.same j

  module _ (h : Header) (d : HeaderOf a h) (b : Booking) (k : Books s (message_in s) b) (p : P.Position) (q : position_value p ≡ position_after (decode a) (message_in s)) {parts : ℕ} (u : PartsFor b p kept parts) where
    parts_are : parts ≡ parts_written (decode a) (message_in s)
    parts_are = parts_told a s b k p q kept j u

    listed_are : chosen_from is_listed199 s kept 0 ≡ listed_details (decode a) (message_in s)
    listed_are = chosen_all is_listed199 (decode a).register s kept j

    returned_are : chosen_from is_returned s kept 0 ≡ returned_details (decode a) (message_in s)
    returned_are = chosen_all is_returned (decode a).register s kept j

    pub message_wrote : {o₁ o₂ : Outgoing} {w₀ w₁ w₂ w₃ : Writer} → Writes (postings (register_of text) (book_by text (record { day = h.day; key = record { bank = p.key.bank; date = p.key.date } })) (message_in s)) w₀ w₁
        → PartsPut (record { day = h.day; count = h.count }) o₁ parts (position_value p) s kept w₁ w₂ → ReturnsPut o₁ o₂ (record { day = h.day; key = record { bank = p.key.bank; date = p.key.date } }) text s kept w₂ w₃
        → TextPut (decode a) (message_in s) w₀ o₂.count w₃
    unfolding position_after messages_written
    message_wrote {o₁ = o₁} v x y =
        let bank : (position_value p).key.bank ≡ bank_of (message_in s) = ap (λ (y : Position). y.key.bank) q in
        let date : (position_value p).key.date ≡ date_of (message_in s) = ap (λ (y : Position). y.key.date) q in
        let many : o₁.count ≡ (decode a).count + parts_written (decode a) (message_in s) = x.count ∙ rw (d.count, parts_are) in
        record {
          writes =
              rw (text_is (decode a) (message_in s))
              (writes_then (rw (d.day, g.same, bank, date) at v)
              (writes_then (rw (parts_are, d.day, d.count, q, listed_are) at x.writes) (rw (many, d.day, g.same, bank, date, returned_are) at y.writes)));
          counted = y.count ∙ rw (many, returned_are) (omega arith);
        }

pub ruleset messages = (transfer_follows, parts_some, parts_none, judged_here, message_wrote)
