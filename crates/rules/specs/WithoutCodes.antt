-- Document 02, CR 5, changes nothing else: with a register without code lines every call answers, writes and leaves what it did before. What it did is said here by document 01's register and by its verdict, of field 59 alone; the text has its last line since (CR 6).
use Rattle.std.specs.Prelude.{◌≡◌, Bool, true, not, cond, List, [], ◌∷◌, ◌++◌, ℕ, ◌+◌, leb, length}
use Rattle.std.proofs.Math.Option.{Option, none, some, get_or}
use Rattle.std.proofs.Math.IntN.{sub_ℕ}
use Rattle.rules.specs.Text.{is_some, any, passing}
use Rattle.rules.specs.Dates.{exists}
use Rattle.rules.specs.BankingDays.{holidays, holidays_of, is_banking_day}
use Rattle.rules.specs.Lines.{Line, lines}
use Rattle.rules.specs.Messages.{Message, mt103, mt101, Detail, account59, read, details_of}
use Rattle.rules.specs.Register.{Register, code_line, register, register_of, empty_register, old_register}
use Rattle.rules.specs.Verdict.{Verdict, verdict, is_returned}
use Rattle.rules.specs.Engine.{Engine, area_size, booked, filed}
use Rattle.rules.specs.Written.{Book, from_bank, verdicts, parts_of, returns, correction_postings, corrections}
use Rattle.rules.specs.Calls.{stop, Answer, refused, answered, holds_of, accepted_opening, own_reference, addition, position_after, message_book, detail_posting, has_verdict, input_stops, limit_stops, refunded, collected, after_turn}
use Rattle.rules.specs.Moves.{with_end}
use Rattle.rules.specs.Area.{holds, on_areas, card_open, card_message, card_turn}

-- ---- the register

-- the temporary account of an old text
abbrev pub plain_temporary : List ℕ → List ℕ
plain_temporary old = (get_or (old_register old) empty_register).temporary

-- a line `code,IBAN`
unfoldable pub is_code_line : Line → Bool
is_code_line l = is_some (code_line l)

-- no line of a text is one
unfoldable pub has_no_codes : List ℕ → Bool
has_no_codes cs = not (any is_code_line (get_or (lines cs) []))

-- ---- a message

-- the verdict on a detail
abbrev pub plain_verdict : Register → Detail → Verdict
plain_verdict r d = verdict r (account59 d)

-- does it return the detail?
unfoldable pub is_plain_returned : Register → Detail → Bool
is_plain_returned r d = is_returned (plain_verdict r d)

-- the returned details, which the MT199 lists and which have their MT103
abbrev pub plain_returned : Engine → Message → List Detail
plain_returned e m = passing (is_plain_returned (register_of e.register)) (details_of m)

-- the posting lines of the details
unfoldable pub plain_detail_postings : Register → Book → List Detail → List ℕ
plain_detail_postings r b [] = []
plain_detail_postings r b (d ∷ ds) = detail_posting r b d (plain_verdict r d) ++ plain_detail_postings r b ds

-- those of a message
unfoldable pub plain_postings : Register → Book → Message → List ℕ
plain_postings r b (mt103 t) = from_bank b t.amount
plain_postings r b (mt101 o) = plain_detail_postings r b o.details

-- how many parts its MT199 has
unfoldable pub plain_parts : Engine → Message → ℕ
plain_parts e m = cond (has_verdict m (position_after e m)) (parts_of (length (plain_returned e m))) 0

-- all that an accepted message makes the card write
unfoldable pub plain_text : Engine → Message → List ℕ
plain_text e m =
    let p = position_after e m in
    plain_postings (register_of e.register) (message_book e m) m
    ++ cond (has_verdict m p) (verdicts e.day e.count p (plain_returned e m)) []
    ++ returns (message_book e m) (e.count + plain_parts e m) (plain_returned e m)

-- what it answers and leaves
unfoldable pub plain_accepted : Engine → Message → Answer
plain_accepted e m = record {
  number = 0;
  text = plain_text e m;
  difference = sub_ℕ (position_after e m).transferred (position_after e m).detailed;
  next = some record {
    register = e.register;
    holidays = e.holidays;
    day = e.day;
    positions = booked (addition m) e.positions;
    references = filed (own_reference m) e.references;
    count = e.count + (plain_parts e m + length (plain_returned e m));
  };
}

-- where no condition holds there is a message
unfoldable pub plain_answer : Engine → Option Message → Answer
plain_answer e none = refused 3 (some e)
plain_answer e (some m) = plain_accepted e m

-- a message to an engine: 1 to 8, 11 to 15, and 16 of these bytes
unfoldable pub plain_call : ℕ → Engine → List ℕ → Answer
plain_call room e s =
    let m = read s in
    answered
    (input_stops (register_of e.register).temporary s
    ++ (limit_stops e m ++ (stop 16 (holds_of (λ (n : Message). not (leb (length (plain_text e n)) room)) m) ∷ [])))
    (some e)
    (plain_answer e m)

-- ---- opening and turn

-- an opening: 9 of the old text, which is kept with its last line
unfoldable pub plain_opening : ℕ → Option Engine → List ℕ → List ℕ → ℕ → Answer
plain_opening size engine old list day =
    answered
    (stop 10 (not (leb area_size size))
    ∷ stop 3 (not (exists day))
    ∷ stop 9 (not (is_some (old_register old)))
    ∷ stop 18 (not (is_some (holidays list)))
    ∷ stop 17 (not (is_banking_day (holidays_of list) day))
    ∷ [])
    engine
    (accepted_opening (with_end old) list day)

-- what a turn writes, by the temporary account of the old text
unfoldable pub plain_turn_text : List ℕ → Engine → ℕ → List ℕ
plain_turn_text old e day =
    let t = plain_temporary old in
    correction_postings day t e.positions ++ corrections day t 0 e.positions

-- a turn of an engine
unfoldable pub plain_turn : ℕ → List ℕ → Engine → ℕ → Answer
plain_turn room old e day =
    answered
    (stop 3 (not (exists day))
    ∷ stop 11 (leb day e.day)
    ∷ stop 17 (not (is_banking_day (holidays_of e.holidays) day))
    ∷ stop 16 (not (leb (length (plain_turn_text old e day)) room))
    ∷ [])
    (some e)
    record {
      number = 0;
      text = plain_turn_text old e day;
      difference = sub_ℕ (refunded e.positions) (collected e.positions);
      next = some (after_turn e day);
    }

-- ---- the claim

-- what is as it was for an old text, once it has its last line
pub record Unchanged (old : List ℕ) : Type 0 where
  -- the register, and with it 10 of an area that keeps the text
  pub reading : register (with_end old) ≡ old_register old
  -- an opening with it
  pub opening : (list : List ℕ) (day : ℕ) (area : List ℕ) → card_open (with_end old) list day area ≡ on_areas (plain_opening (length area) (holds area) old list day) area []
  -- a message to an area that holds an engine with this text, and a turn of one
  pub message : (s area out : List ℕ) (e : Engine) → holds area ≡ some e → e.register ≡ with_end old → card_message s area out ≡ on_areas (plain_call (length out) e s) area out
  pub turn : (day : ℕ) (area out : List ℕ) (e : Engine) → holds area ≡ some e → e.register ≡ with_end old → card_turn day area out ≡ on_areas (plain_turn (length out) old e day) area out

-- "a register without code lines"
abbrev pub WithoutCodes : Type 0
WithoutCodes = (old : List ℕ) → has_no_codes old ≡ true → Unchanged old
