-- Document 01, "Positions and turn" and "Written": demand 3's ledger, and its sums read back from the posting lines.
use Rattle.std.specs.Prelude.{Bool, true, false, ◌&&◌, ◌||◌, not, cond, List, [], ◌∷◌, ◌++◌, ℕ, ◌+◌, leb, eqb, ℤ, length, get_or}
use Rattle.std.proofs.Math.Option
use Rattle.std.proofs.Math.Option.{Option, none, some}
use Rattle.std.proofs.Math.IntN.{sub_ℕ}
use Rattle.rules.specs.Text.{ascii, equal, fits, digits, is_some, given, any}
use Rattle.rules.specs.Accounts.{is_bic, iban_shape}
use Rattle.rules.specs.Lines.{Line, lines, parted}
use Rattle.rules.specs.Messages.{Message, mt103, mt101, read, date_of, transferred_by}
use Rattle.rules.specs.Engine.{Position, alike, raised, kept, bic}
use Rattle.rules.specs.Calls.{addition, bank_of}
use Rattle.rules.specs.Services.{Service}

-- what a call was handed: its message or day, or what a call that changes no engine is handed
pub data Request : Type 0 where
  message : List ℕ → Request
  turn : ℕ → Request
  service : Service → Request

-- a call: what it was handed, the number that it answered and the bytes that it wrote
pub record Event : Type 0 where
  pub request : Request
  pub number : ℕ
  pub bytes : List ℕ

-- ---- the ledger: "fed the calls, each with its message or day and the number it answered, and nothing from the area"

-- "An entry has bank, centralisation date, transferred and detailed; a missing one begins with 0 and 0.": both totals of q added to its entry; as `booked`, but a new one goes to the end
unfoldable pub entered : Position → List Position → List Position
entered q [] = q ∷ []
entered q (p ∷ ps) = let on = p ∷ entered q ps in cond (alike p q) (raised p q ∷ ps) on

-- "An accepted MT103 adds its amount to transferred in the entry of its sender and date, an accepted MT101 all its 32B amounts to detailed."
unfoldable pub entered_by : Option Message → List Position → List Position
entered_by none ledger = ledger
entered_by (some m) ledger = entered (addition m) ledger

-- "An accepted turn removes each entry with detailed above 0."; all other calls count for nothing
unfoldable pub applied : Request → List Position → List Position
applied (message s) ledger = entered_by (read s) ledger
applied (turn day) ledger = kept ledger
applied (service v) ledger = ledger

-- "A refused call changes nothing."
unfoldable pub ledger_from : List Position → List Event → List Position
ledger_from ledger [] = ledger
ledger_from ledger (e ∷ es) = let after = ledger_from (applied e.request ledger) es in let same = ledger_from ledger es in cond (eqb e.number 0) after same

-- "It is empty at the accepted opening."
abbrev pub ledger_of : List Event → List Position
ledger_of es = ledger_from [] es

-- "transferred": of a bank's entries
unfoldable pub transferred_of : ℕ → List Position → ℕ
transferred_of bank [] = 0
transferred_of bank (p ∷ ps) = let r = transferred_of bank ps in cond (eqb p.key.bank bank) (p.transferred + r) r

-- "detailed": of a bank's entries
unfoldable pub detailed_of : ℕ → List Position → ℕ
detailed_of bank [] = 0
detailed_of bank (p ∷ ps) = let r = detailed_of bank ps in cond (eqb p.key.bank bank) (p.detailed + r) r

-- "Held in demand 3 is the sum of transferred minus detailed over the bank's entries."
unfoldable pub held : ℕ → List Position → ℤ
held bank ledger = sub_ℕ (transferred_of bank ledger) (detailed_of bank ledger)

-- the same entry: of one bank and date, with the same totals
unfoldable pub same_entry : Position → Position → Bool
same_entry p q = alike p q && eqb p.transferred q.transferred && eqb p.detailed q.detailed

-- ---- the reader of posting lines

-- a posting line read back
pub record Posted : Type 0 where
  pub day : List ℕ
  pub debit : List ℕ
  pub credit : List ℕ
  pub amount : ℕ
  pub bank : List ℕ
  pub date : List ℕ

-- a bank or an account
unfoldable pub is_party : List ℕ → Bool
is_party cs = is_bic cs || iban_shape cs

-- one or more digits
unfoldable pub is_number : List ℕ → Bool
is_number cs = leb 1 (length cs) && is_some (digits cs)

-- the parts of a posting line: "`day,debit,credit,stotinki,bank,centralisation date`"
unfoldable pub is_posting : List (List ℕ) → Bool
is_posting ps =
    let part : ℕ → List ℕ = λ i. get_or ps i [] in
    eqb (length ps) 6 && fits (ascii "nnnnnn") (part 0) && is_party (part 1) && is_party (part 2) && is_number (part 3) && is_bic (part 4) && fits (ascii "nnnnnn") (part 5)

-- what they say
unfoldable pub posted_parts : List (List ℕ) → Posted
posted_parts ps =
    let part : ℕ → List ℕ = λ i. get_or ps i [] in
    record { day = part 0; debit = part 1; credit = part 2; amount = Option.get_or (digits (part 3)) 0; bank = part 4; date = part 5 }

-- a line read back, where it is a posting line
unfoldable pub posted : Line → Option Posted
posted l = let ps = parted l in given (is_posting ps) (posted_parts ps)

-- the lines that a call wrote
abbrev pub lines_of : Event → List Line
lines_of e = Option.get_or (lines e.bytes) []

-- ---- the five sums: "each for the bank in it"

-- a kind of posting line, by the call that wrote it
abbrev pub Kind : Type 0
Kind = Request → Posted → Bool

-- "from a message"
unfoldable pub is_message : Request → Bool
is_message (message s) = true
is_message (turn day) = false
is_message (service v) = false

-- "a debit of that bank is a transfer if day and centralisation date are equal, else a collection"
unfoldable pub is_transfer : ℕ → Kind
is_transfer bank f q = equal q.bank (bic bank) && equal q.debit (bic bank) && equal q.day q.date

-- "else a collection"
unfoldable pub is_collection : ℕ → Kind
is_collection bank f q = equal q.bank (bic bank) && equal q.debit (bic bank) && not (equal q.day q.date)

-- "a credit of it is a return from a message, a refund from a turn"
unfoldable pub is_return : ℕ → Kind
is_return bank f q = equal q.bank (bic bank) && equal q.credit (bic bank) && is_message f

-- "a refund from a turn"
unfoldable pub is_refund : ℕ → Kind
is_refund bank f q = equal q.bank (bic bank) && equal q.credit (bic bank) && not (is_message f)

-- "every other line that debits the temporary account is a credit"
unfoldable pub is_credit : List ℕ → ℕ → Kind
is_credit temporary bank f q =
    equal q.bank (bic bank) && not (equal q.debit (bic bank)) && not (equal q.credit (bic bank)) && equal q.debit temporary

-- the amount of a posting line of a kind
unfoldable pub amount_if : Kind → Request → Option Posted → ℕ
amount_if kind f none = 0
amount_if kind f (some q) = cond (kind f q) q.amount 0

-- "added up from the posting lines" of one call
unfoldable pub sum_of_lines : Kind → Request → List Line → ℕ
sum_of_lines kind f [] = 0
sum_of_lines kind f (l ∷ ls) = amount_if kind f (posted l) + sum_of_lines kind f ls

-- the lines of a kind that the calls wrote
unfoldable pub sum_of : Kind → List Event → ℕ
sum_of kind [] = 0
sum_of kind (e ∷ es) = sum_of_lines kind e.request (lines_of e) + sum_of kind es

-- ---- after a turn

-- "From each accepted turn"
unfoldable pub is_turn : Request → Bool
is_turn (message s) = false
is_turn (turn day) = true
is_turn (service v) = false

-- is it so behind an accepted call, where it was b before?
unfoldable pub turned_by : Bool → Request → Bool
turned_by b (message s) = false
turned_by b (turn day) = true
turned_by b (service v) = b

-- "From each accepted turn until the next accepted message": of all messages and turns the last one accepted is a turn
unfoldable pub since_turn : Bool → List Event → Bool
since_turn b [] = b
since_turn b (e ∷ es) = let on = since_turn (turned_by b e.request) es in let same = since_turn b es in cond (eqb e.number 0) on same

-- a message, if there is one
unfoldable pub listed : Option Message → List Message
listed none = []
listed (some m) = m ∷ []

-- the message that a call was handed
unfoldable pub message_of : Request → List Message
message_of (message s) = listed (read s)
message_of (turn day) = []
message_of (service v) = []

-- "A bank's transfers and details since opening are those of its accepted messages, also where the entry has been removed."
unfoldable pub accepted : List Event → List Message
accepted [] = []
accepted (e ∷ es) = let r = accepted es in cond (eqb e.number 0) (message_of e.request ++ r) r

-- "its details" for a centralisation date
unfoldable pub is_details : ℕ → ℕ → Message → Bool
is_details bank date (mt103 t) = false
is_details bank date (mt101 o) = eqb (bank_of (mt101 o)) bank && eqb (date_of (mt101 o)) date

-- of some messages, a bank's transfers for those dates for which none of all has its details
unfoldable pub untouched : ℕ → List Message → List Message → ℕ
untouched bank all [] = 0
untouched bank all (m ∷ ms) =
    let r = untouched bank all ms in cond (eqb (bank_of m) bank && not (any (is_details bank (date_of m)) all)) (transferred_by m + r) r

-- "the sum of that bank's transfers for those centralisation dates for which none of its details has been accepted since opening"
abbrev pub untouched_of : ℕ → List Message → ℕ
untouched_of bank all = untouched bank all all
