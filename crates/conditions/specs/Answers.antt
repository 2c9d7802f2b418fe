-- What the answer of the check says: document 01's number for each case, and what booking a message that passed needs.
use Rattle.std.specs.Prelude.{◌≡◌, List, ℕ, ◌-◌, ◌≤◌, ◌<◌, length, take, Result, Ok, Err}
use Rattle.std.proofs.Common.{sym, ap, ◌∙◌, subst, arith, length-take-le}
use Rattle.std.proofs.Math.Seq.{get_or-take}
use Rattle.std.proofs.Math.Nat.{sub-zero}
use Rattle.std.proofs.Math.Option.{Option, some}
use Rattle.rules.specs.Messages.{Message, read, details_of}
use Rattle.rules.specs.Register.{register_of}
use Rattle.rules.specs.Calls.{form_stops, first_of, input_stops}
use Rattle.details.specs.Message.{or_none, message_in, detail_at}
use Rattle.verdict.specs.Details.{no_judged, judged_at, JudgedAs, JudgedIn}
use Rattle.verdict.specs.declared.detail.Judged.{Judged}
use Rattle.conditions.specs.Books.{Books, count_of}
use Rattle.conditions.specs.declared.booking.Booking.{Booking}
use Rattle.refusal.specs.Numbers.{number_of, stop_of}
use Rattle.refusal.specs.declared.Refusal.{Refusal}

-- an answer of the check: one of 1 to 8 holds, or what booking the message needs
abbrev pub Checked : Type 0
Checked = Result Booking Refusal

-- b books what was read, and its details are kept, judged by a register's text
pub record Reads (s text : List ℕ) (o : Option Message) (b : Booking) (kept : List Judged) : Type 0 where
  pub message : Message
  pub same : o ≡ some message
  pub books : Books s message b
  pub count : count_of b.kind ≡ length (details_of message)
  pub few : count_of b.kind ≤ 16
  pub room : count_of b.kind ≤ length kept
  pub each : (i : ℕ) → i < count_of b.kind → JudgedAs text s (detail_at (details_of message) i) (judged_at kept i)

abbrev pub Parts : List ℕ → List ℕ → Option Message → List Judged → Checked → Type 0
Parts s text o kept (Err r) = 0 < number_of r
Parts s text o kept (Ok b) = Reads s text o b kept

-- the temporary account of a register's text
abbrev pub temporary_in : List ℕ → List ℕ
temporary_in text = (register_of text).temporary

-- r answers 3 to 8 of what was read, and has its parts
pub record CheckedBy (s text : List ℕ) (o : Option Message) (r : Checked) (kept : List Judged) : Type 0 where
  pub number : stop_of r ≡ first_of (form_stops (temporary_in text) o)
  pub parts : Parts s text o kept r

-- r answers 1 to 8 of the message's bytes, and has its parts
pub record CheckedAs (s text : List ℕ) (r : Checked) (kept : List Judged) : Type 0 where
  pub number : stop_of r ≡ first_of (input_stops (temporary_in text) s)
  pub parts : Parts s text (read s) kept r

-- ---- by the case that a match found

-- the message of the bytes passed 1 to 8; b books it, and its details are kept and judged
pub record Passes (s text : List ℕ) (b : Booking) (kept : List Judged) : Type 0 where
  pub none_holds : first_of (input_stops (temporary_in text) s) ≡ 0
  pub read : read s ≡ some (message_in s)
  pub books : Books s (message_in s) b
  pub judged : JudgedIn text s kept

message_is : (s : List ℕ) (m : Message) → read s ≡ some m → message_in s ≡ m
unfolding message_in or_none
message_is s m e = rw e

module _ (s text : List ℕ) (b : Booking) (kept : List Judged) (z : first_of (input_stops (temporary_in text) s) ≡ 0) (p : Reads s text (read s) b kept) where
  its : message_in s ≡ p.message
  its = message_is s p.message p.same

  many : length (take (count_of b.kind) kept) ≡ count_of b.kind
  many = length-take-le (count_of b.kind) kept p.room

  here : (i : ℕ) → i < length (take (count_of b.kind) kept) → i < count_of b.kind
  here i l = omega (arith, many)

  judged_here : (i : ℕ) → i < length (take (count_of b.kind) kept) → JudgedAs text s (detail_at (details_of (message_in s)) i) (judged_at (take (count_of b.kind) kept) i)
  judged_here i l = rw (its, get_or-take (count_of b.kind) kept i no_judged (here i l)) (p.each i (here i l))

  reads_told : Passes s text b (take (count_of b.kind) kept)
  reads_told = record {
    none_holds = z;
    read = rw its p.same;
    books = rw its p.books;
    judged = record {
      kept_in = record { count = many ∙ rw its p.count; few = omega (arith, many, p.few); each = λ i l. (judged_here i l).kept };
      verdicts = λ i l. (judged_here i l).verdict;
    };
  }

module _ (s text : List ℕ) (r : Checked) (kept : List Judged) (h : CheckedAs s text r kept) where
  pub refused_told : (k : Refusal) → r ≡ Err k → number_of k ≡ first_of (input_stops (temporary_in text) s)
  refused_told k e = sym (ap (λ (x : Checked). stop_of x) e) ∙ h.number

  pub refused_some : (k : Refusal) → r ≡ Err k → 0 < number_of k
  refused_some k e = subst (Parts s text (read s) kept) e h.parts

  -- the first of what is kept, as a slice
  pub passed_told : (b : Booking) → r ≡ Ok b → Passes s text b (take ((count_of b.kind) - 0) kept)
  passed_told b e = rw (sub-zero (count_of b.kind)) (reads_told s text b kept (sym h.number ∙ ap (λ (x : Checked). stop_of x) e) (subst (Parts s text (read s) kept) e h.parts))

  pub passed_room : (b : Booking) → r ≡ Ok b → count_of b.kind ≤ length kept
  passed_room b e = let p : Reads s text (read s) b kept = subst (Parts s text (read s) kept) e h.parts in p.room
