-- Opening, message and turn on an engine: document 01's conditions in their order, and what an acceptance writes and leaves.
use Rattle.std.specs.Prelude.{Bool, true, false, ◌&&◌, ◌||◌, not, cond, List, [], ◌∷◌, ◌++◌, ℕ, ◌+◌, ◌-◌, leb, eqb, ℤ, pos, length, take, drop}
use Rattle.std.proofs.Math.Option.{Option, none, some, get_or}
use Rattle.std.proofs.Math.IntN.{sub_ℕ}
use Rattle.rules.specs.Text.{ascii, equal, big_endian, is_some, any, passing, twice}
use Rattle.rules.specs.Dates.{exists}
use Rattle.rules.specs.Accounts.{passes}
use Rattle.rules.specs.BankingDays.{holidays, holidays_of, is_banking_day}
use Rattle.rules.specs.Lines.{framed, type, receiver}
use Rattle.rules.specs.Messages.{Message, mt103, mt101, Detail, currency32a, account103, field21, currency32b, payer, payer_code, account59, read, sender_of, reference_of, details_of, date_of, transferred_by, detailed_by, first_date}
use Rattle.rules.specs.Register.{Register, register, register_of}
use Rattle.rules.specs.Verdict.{Verdict, credited, credited_by_code, returned, verdict, by_code, is_returned, is_listed199, account_at}
use Rattle.rules.specs.Engine.{Key, Position, Reference, Engine, area_size, limit, position_of, is_open, booked, kept, slashed, same_reference, filed, has_details}
use Rattle.rules.specs.Written.{Book, from_bank, to_account, to_bank, verdicts, parts_of, returns, correction_postings, corrections, corrected_count}

-- ---- conditions of refusal

-- a number beside its condition
pub record Stop : Type 0 where
  pub number : ℕ
  pub holds : Bool

-- a condition of "Stopped by .."
abbrev pub stop : ℕ → Bool → Stop
stop k b = record { number = k; holds = b }

-- "the lowest number whose condition holds is returned", each list standing in the order in which it is tested; 0 where none holds
unfoldable pub first_of : List Stop → ℕ
first_of [] = 0
first_of (s ∷ ss) = let r = first_of ss in cond s.holds s.number r

-- "An acceptance carries 0, the bytes written and a difference"; the engine that the call leaves
pub record Answer : Type 0 where
  pub number : ℕ
  pub text : List ℕ
  pub difference : ℤ
  pub next : Option Engine

-- a refusal: "difference, bytes and all else 0", and the engine stays
abbrev pub refused : ℕ → Option Engine → Answer
refused k engine = record { number = k; text = []; difference = pos 0; next = engine }

-- a call: accepted where no condition holds, and else refused by the first
unfoldable pub answered : List Stop → Option Engine → Answer → Answer
answered stops engine accepted = let k = first_of stops in cond (eqb k 0) accepted (refused k engine)

-- a test on what is there
unfoldable pub holds_of : {A : Type 0} → (A → Bool) → Option A → Bool
holds_of p none = false
holds_of p (some a) = p a

-- ---- opening: "Opening tests 10, 3, then 9", and with CR 2: 18 "tested at opening after 9", 17 "after 18 at opening"

-- size is the engine area's, text the register's, list the holiday list
unfoldable pub open_stops : ℕ → List ℕ → List ℕ → ℕ → List Stop
open_stops size text list day =
    stop 10 (not (leb area_size size))
    ∷ stop 3 (not (exists day))
    ∷ stop 9 (not (is_some (register text)))
    ∷ stop 18 (not (is_some (holidays list)))
    ∷ stop 17 (not (is_banking_day (holidays_of list) day))
    ∷ []

-- "Opening takes the register and a day and gives an engine with no positions, references or output.", "Opening now also takes 0 to 60 holidays"
unfoldable pub opened : List ℕ → List ℕ → ℕ → Engine
opened text list day = record { register = text; holidays = list; day = day; positions = []; references = []; count = 0 }

-- accepted, it writes nothing
unfoldable pub accepted_opening : List ℕ → List ℕ → ℕ → Answer
accepted_opening text list day = record { number = 0; text = []; difference = pos 0; next = some (opened text list day) }

-- an opening of an area that is lent with a size
unfoldable pub open_call : ℕ → Option Engine → List ℕ → List ℕ → ℕ → Answer
open_call size engine text list day = answered (open_stops size text list day) engine (accepted_opening text list day)

-- ---- message: conditions

-- 2: "type or receiver"
unfoldable pub addressed : List ℕ → Bool
addressed s = (equal (type s) (ascii "101") || equal (type s) (ascii "103")) && equal (receiver s) (ascii "BNBGBGSD")

-- 5: "a reference (20, 21) that begins or ends with `/` or has `//`, or one field 21 twice"
unfoldable pub bad_reference : Message → Bool
bad_reference m =
    slashed (reference_of m)
    || any (λ (d : Detail). slashed (field21 d)) (details_of m)
    || twice (λ (d e : Detail). equal (field21 d) (field21 e)) (details_of m)

-- 6: "currency not BGN, or amount 0"
unfoldable pub bad_sum : List ℕ → ℕ → Bool
bad_sum currency v = not (equal currency (ascii "BGN")) || eqb v 0

-- 6, of 32A and of each 32B
unfoldable pub bad_amount : Message → Bool
bad_amount (mt103 t) = bad_sum (currency32a t.rows) t.amount
bad_amount (mt101 o) = any (λ (d : Detail). bad_sum (currency32b d) d.amount) o.details

-- 7: "a 50H account that doesn't pass or whose characters 5 to 8 aren't the sender's first four"
unfoldable pub foreign_payer : List ℕ → Detail → Bool
foreign_payer from d = not (passes (payer d)) || not (equal (take 4 (drop 4 (payer d))) (take 4 from))

-- 7: "MT103's field 59 not the temporary account alone, or .."
unfoldable pub bad_account : List ℕ → Message → Bool
bad_account temporary (mt103 t) = not (equal (account103 t.rows) temporary)
bad_account temporary (mt101 o) = any (foreign_payer o.sender) o.details

-- 8: "details of different centralisation dates"
unfoldable pub many_dates : Message → Bool
many_dates m = any (λ (d : Detail). not (eqb d.date (date_of m))) (details_of m)

-- 11: "MT103 not dated today, MT101 dated after today"
unfoldable pub misdated : ℕ → Message → Bool
misdated day (mt103 t) = not (eqb t.date day)
misdated day (mt101 o) = not (leb (first_date o.details) day)

-- the bank that sends
abbrev pub bank_of : Message → ℕ
bank_of m = big_endian (sender_of m)

-- "this sender's field 20"
abbrev pub own_reference : Message → Reference
own_reference m = record { sender = bank_of m; text = reference_of m }

-- the key of its position
abbrev pub key_of : Message → Key
key_of m = record { bank = bank_of m; date = date_of m }

-- what the message adds to its position
abbrev pub addition : Message → Position
addition m = record { key = key_of m; transferred = transferred_by m; detailed = detailed_by m }

-- its position as it then is
unfoldable pub position_after : Engine → Message → Position
position_after e m =
    let p = position_of (key_of m) e.positions in
    record { key = key_of m; transferred = p.transferred + transferred_by m; detailed = p.detailed + detailed_by m }

-- 14: "32 positions open, none of them this one"
unfoldable pub no_room : Engine → Message → Bool
no_room e m = leb 32 (length e.positions) && not (is_open (key_of m) e.positions)

-- 15: "a total over its limit"
unfoldable pub over_limit : Engine → Message → Bool
over_limit e m = not (leb (position_after e m).transferred limit) || not (leb (position_after e m).detailed limit)

-- ---- message: what is written

-- "A detail's verdict": of field 59, and where it would be returned of its code
abbrev pub verdict_of : Register → Detail → Verdict
verdict_of r d = by_code r (payer_code d) (verdict r (account59 d))

-- a detail whose verdict passes a test
unfoldable pub verdict_is : (Verdict → Bool) → Register → Detail → Bool
verdict_is test r d = test (verdict_of r d)

-- those of some details whose verdicts do
abbrev pub judged_to : (Verdict → Bool) → Register → List Detail → List Detail
judged_to test r ds = passing (verdict_is test r) ds

-- "each returned detail of this message"
abbrev pub returned_details : Engine → Message → List Detail
returned_details e m = judged_to is_returned (register_of e.register) (details_of m)

-- the details of a message that its MT199 lists
abbrev pub listed_details : Engine → Message → List Detail
listed_details e m = judged_to is_listed199 (register_of e.register) (details_of m)

-- what the posting lines and the returns of a message share
abbrev pub message_book : Engine → Message → Book
message_book e m = record { day = e.day; temporary = (register_of e.register).temporary; bank = bank_of m; date = date_of m }

-- the posting line of a detail by its verdict
unfoldable pub detail_posting : Register → Book → Detail → Verdict → List ℕ
detail_posting r b d (credited i) = to_account b (account_at r i).iban d.amount
detail_posting r b d (credited_by_code i c) = to_account b (account_at r i).iban d.amount
detail_posting r b d (returned c) = to_bank b d.amount

-- "Posting lines come first, in the order of details"
unfoldable pub detail_postings : Register → Book → List Detail → List ℕ
detail_postings r b [] = []
detail_postings r b (d ∷ ds) = detail_posting r b d (verdict_of r d) ++ detail_postings r b ds

-- the posting lines of a message: a transfer's, or those of the details
unfoldable pub postings : Register → Book → Message → List ℕ
postings r b (mt103 t) = from_bank b t.amount
postings r b (mt101 o) = detail_postings r b o.details

-- "MT199 follows every accepted MT101, and an MT103 whose position has details."
unfoldable pub has_verdict : Message → Position → Bool
has_verdict (mt103 t) p = has_details p
has_verdict (mt101 o) p = true

-- how many parts it has
unfoldable pub parts_written : Engine → Message → ℕ
parts_written e m = cond (has_verdict m (position_after e m)) (parts_of (length (listed_details e m))) 0

-- how many messages are written: its parts and the returns
unfoldable pub messages_written : Engine → Message → ℕ
messages_written e m = parts_written e m + length (returned_details e m)

-- all that an accepted message makes the card write: posting lines, then the parts of the MT199, "After the MT199 parts" the returns
unfoldable pub message_text : Engine → Message → List ℕ
message_text e m =
    let p = position_after e m in
    postings (register_of e.register) (message_book e m) m
    ++ cond (has_verdict m p) (verdicts e.day e.count p (listed_details e m)) []
    ++ returns (message_book e m) (e.count + parts_written e m) (returned_details e m)

-- the engine after the message
unfoldable pub after_message : Engine → Message → Engine
after_message e m = record {
  register = e.register;
  holidays = e.holidays;
  day = e.day;
  positions = booked (addition m) e.positions;
  references = filed (own_reference m) e.references;
  count = e.count + messages_written e m;
}

-- 3 to 8, of what was read of a message
unfoldable pub form_stops : List ℕ → Option Message → List Stop
form_stops temporary m =
    stop 3 (not (is_some m))
    ∷ stop 4 (holds_of (λ m. not (leb (length (details_of m)) 16)) m)
    ∷ stop 5 (holds_of bad_reference m)
    ∷ stop 6 (holds_of bad_amount m)
    ∷ stop 7 (holds_of (bad_account temporary) m)
    ∷ stop 8 (holds_of many_dates m)
    ∷ []

-- "Stopped by the input": 1 to 8, of a message's bytes and the temporary account
unfoldable pub input_stops : List ℕ → List ℕ → List Stop
input_stops temporary s = stop 1 (not (framed s)) ∷ stop 2 (not (addressed s)) ∷ form_stops temporary (read s)

-- 11 to 15, of the engine
unfoldable pub limit_stops : Engine → Option Message → List Stop
limit_stops e m =
    stop 11 (holds_of (misdated e.day) m)
    ∷ stop 12 (holds_of (λ m. any (same_reference (own_reference m)) e.references) m)
    ∷ stop 13 (leb 64 (length e.references))
    ∷ stop 14 (holds_of (no_room e) m)
    ∷ stop 15 (holds_of (over_limit e) m)
    ∷ []

-- 16, of the output's room
unfoldable pub room_stops : ℕ → Engine → Option Message → List Stop
room_stops room e m = stop 16 (holds_of (λ m. not (leb (length (message_text e m)) room)) m) ∷ []

-- "Stopped by the state": 11 to 16
unfoldable pub state_stops : ℕ → Engine → Option Message → List Stop
state_stops room e m = limit_stops e m ++ room_stops room e m

-- "10, tested before all others"; behind it, where there is no engine, nothing is tested of any
unfoldable pub message_stops : ℕ → Option Engine → List ℕ → List Stop
message_stops room engine s =
    let e = get_or engine (opened [] [] 0) in
    (stop 10 (not (is_some engine)) ∷ [])
    ++ input_stops (register_of e.register).temporary s
    ++ state_stops room e (read s)

-- "for a message its position's transferred minus detailed"
unfoldable pub accepted_message : Engine → Message → Answer
accepted_message e m = record {
  number = 0;
  text = message_text e m;
  difference = sub_ℕ (position_after e m).transferred (position_after e m).detailed;
  next = some (after_message e m);
}

-- where no condition holds there are an engine and a message
unfoldable pub both_of : Option Engine → Option Message → Answer
both_of none m = refused 10 none
both_of (some e) none = refused 3 (some e)
both_of (some e) (some m) = accepted_message e m

-- a message
unfoldable pub message_call : ℕ → Option Engine → List ℕ → Answer
message_call room engine s = answered (message_stops room engine s) engine (both_of engine (read s))

-- ---- turn: "A turn tests 10, 3, 11, then 16", and with CR 2: 17 "tested after 11 in a turn"

-- "References and the outgoing number start anew, before corrections are numbered."
unfoldable pub turn_text : Engine → ℕ → List ℕ
turn_text e day =
    let t = (register_of e.register).temporary in
    correction_postings day t e.positions ++ corrections day t 0 e.positions

-- 3 "a date that doesn't exist"; 11 "turn to no later day"; 17 "the day is a Saturday, a Sunday or a listed holiday"; 16 "output shorter than this call's bytes"
unfoldable pub turn_stops : ℕ → Option Engine → ℕ → List Stop
turn_stops room engine day =
    let e = get_or engine (opened [] [] 0) in
    stop 10 (not (is_some engine))
    ∷ stop 3 (not (exists day))
    ∷ stop 11 (leb day e.day)
    ∷ stop 17 (not (is_banking_day (holidays_of e.holidays) day))
    ∷ stop 16 (not (leb (length (turn_text e day)) room))
    ∷ []

-- "refunded if positive": the sum over the positions with details
unfoldable pub refunded : List Position → ℕ
refunded [] = 0
refunded (p ∷ ps) = let r = refunded ps in cond (has_details p) ((p.transferred - p.detailed) + r) r

-- "collected if negative": the sum over the positions with details
unfoldable pub collected : List Position → ℕ
collected [] = 0
collected (p ∷ ps) = let r = collected ps in cond (has_details p) ((p.detailed - p.transferred) + r) r

-- the engine after the turn: positions with details are removed
unfoldable pub after_turn : Engine → ℕ → Engine
after_turn e day = record {
  register = e.register;
  holidays = e.holidays;
  day = day;
  positions = kept e.positions;
  references = [];
  count = corrected_count e.positions;
}

-- "for a turn refunded minus collected"
unfoldable pub accepted_turn : Option Engine → ℕ → Answer
accepted_turn none day = refused 10 none
accepted_turn (some e) day = record {
  number = 0;
  text = turn_text e day;
  difference = sub_ℕ (refunded e.positions) (collected e.positions);
  next = some (after_turn e day);
}

-- a turn to a day
unfoldable pub turn_call : ℕ → Option Engine → ℕ → Answer
turn_call room engine day = answered (turn_stops room engine day) engine (accepted_turn engine day)
