-- Document 01, "Messages read": an MT103 and an MT101 with their parts.
use Rattle.std.specs.Prelude.{cond, List, [], ◌∷◌, ◌++◌, ℕ, zero, suc, ◌+◌, length, get_or, take, drop}
use Rattle.std.proofs.Math.Option.{Option, none, some, map}
use Prim.Native.String.{String}
use Rattle.rules.specs.Text.{ascii, equal, then, given, ended}
use Rattle.rules.specs.Dates.{date}
use Rattle.rules.specs.Amounts.{amount}
use Rattle.rules.specs.Lines.{Line, is_closing_line, type, sender, body}
use Rattle.rules.specs.Forms.{take_rows, transfer_rows, order_rows, detail_rows, message20, transfer32a, transfer59, transfer_baeref, detail21, detail32b, detail50h, detail_code, detail52d, detail59, detail_centrb, detail_baeref}

-- the line of a row
abbrev pub line_of : List Line → ℕ → Line
line_of ls i = get_or ls i []

-- what stands behind a line's first bytes, as many as the pattern has
abbrev pub past : String → Line → List ℕ
past pattern l = drop (length (ascii pattern)) l

-- a row as it stands: its line with CR LF, and nothing where the row is left out
unfoldable pub row_text : Line → List ℕ
row_text [] = []
row_text (c ∷ cs) = ended (c ∷ cs)

-- some rows, one behind the other
unfoldable pub rows_text : List Line → List ℕ
rows_text [] = []
rows_text (l ∷ ls) = row_text l ++ rows_text ls

-- ---- MT103, by `transfer_rows`

-- a transfer: its lines by rows, and 32A's date and amount
pub record Transfer : Type 0 where
  pub sender : List ℕ
  pub rows : List Line
  pub date : ℕ
  pub amount : ℕ

-- field 20
abbrev pub field20 : List Line → List ℕ
field20 ls = past ":20:" (line_of ls message20)

-- 32A's date, C and amount
abbrev pub date32a : List Line → List ℕ
date32a ls = take 6 (past ":32A:" (line_of ls transfer32a))

abbrev pub currency32a : List Line → List ℕ
currency32a ls = take 3 (past ":32A:nnnnnn" (line_of ls transfer32a))

abbrev pub amount32a : List Line → List ℕ
amount32a ls = past ":32A:nnnnnnaaa" (line_of ls transfer32a)

-- field 59 behind its slash
abbrev pub account103 : List Line → List ℕ
account103 ls = past ":59:/" (line_of ls transfer59)

-- BAEREF's date
abbrev pub baeref_date103 : List Line → List ℕ
baeref_date103 ls = take 6 (past "/BAEREF/" (line_of ls transfer_baeref))

-- 32A's date and amount, and BAEREF's date, are read from their rows
unfoldable pub transfer_of : List ℕ → List Line → Option Transfer
transfer_of from ls =
    then (date (date32a ls)) (λ d.
    then (amount (amount32a ls)) (λ a.
    then (date (baeref_date103 ls)) (λ b.
    some record { sender = from; rows = ls; date = d; amount = a })))

-- ---- a detail of an MT101, by `detail_rows`

-- a detail: its lines by rows, 70's CENTRB date and 32B's amount
pub record Detail : Type 0 where
  pub rows : List Line
  pub date : ℕ
  pub amount : ℕ

-- field 21
abbrev pub field21 : Detail → List ℕ
field21 d = past ":21:" (line_of d.rows detail21)

-- C of 32B
abbrev pub currency32b : Detail → List ℕ
currency32b d = take 3 (past ":32B:" (line_of d.rows detail32b))

-- 50H's account, without its code
abbrev pub payer : Detail → List ℕ
payer d = take 22 (past ":50H:/" (line_of d.rows detail50h))

-- "the second line behind its 50H account", empty where there is none
abbrev pub payer_code : Detail → List ℕ
payer_code d = line_of d.rows detail_code

-- 52D's BAE code
abbrev pub branch : Detail → List ℕ
branch d = take 8 (past ":52D:" (line_of d.rows detail52d))

-- "the account line and the first three further lines of 50H", behind the tag
abbrev pub payer_lines : Detail → List ℕ
payer_lines d = past ":50H:" (rows_text (take 4 (drop detail50h d.rows)))

-- "the detail's 52D lines", behind the tag
abbrev pub branch_lines : Detail → List ℕ
branch_lines d = past ":52D:" (rows_text (take 2 (drop detail52d d.rows)))

-- field 59 behind its slash
abbrev pub account59 : Detail → List ℕ
account59 d = past ":59:/" (line_of d.rows detail59)

-- 70's date behind BAEREF, of a detail's lines
abbrev pub date_baeref : List Line → List ℕ
date_baeref ls = take 6 (past "BAEREF" (line_of ls detail_baeref))

-- "`BAEREF`, date, N": its date
abbrev pub baeref_date : Detail → List ℕ
baeref_date d = date_baeref d.rows

-- "`BAEREF`, date, N": its N
abbrev pub baeref_name : Detail → List ℕ
baeref_name d = past "BAEREFnnnnnn" (line_of d.rows detail_baeref)

-- 32B's amount, of a detail's lines
abbrev pub amount32b : List Line → List ℕ
amount32b ls = past ":32B:aaa" (line_of ls detail32b)

-- 70's date behind CENTRB, of a detail's lines
abbrev pub date_centrb : List Line → List ℕ
date_centrb ls = take 6 (past ":70:CENTRB" (line_of ls detail_centrb))

-- 32B's amount and the dates of 70 are read from their rows
unfoldable pub detail_of : List Line → Option Detail
detail_of ls =
    then (amount (amount32b ls)) (λ a.
    then (date (date_centrb ls)) (λ d.
    then (date (date_baeref ls)) (λ b.
    some record { rows = ls; date = d; amount = a })))

-- the first detail of a text, and what stands behind it
pub record TakenDetail : Type 0 where
  pub detail : Detail
  pub others : List ℕ

-- the first detail, in form and with dates that exist
unfoldable pub take_detail : List ℕ → Option TakenDetail
take_detail cs = then (take_rows detail_rows cs) (λ r. then (detail_of r.rows) (λ d. some record { detail = d; others = r.others }))

-- "one or more details", up to the closing line; k is more than there can be
unfoldable pub details : ℕ → List ℕ → Option (List Detail)
details zero cs = none
details (suc k) cs =
    then (take_detail cs) (λ d.
    let more = map (λ ds. d.detail ∷ ds) (details k d.others) in
    cond (is_closing_line d.others) (some (d.detail ∷ [])) more)

-- ---- messages

-- an MT101
pub record Order : Type 0 where
  pub sender : List ℕ
  pub rows : List Line
  pub details : List Detail

-- "a reader of MT103 and MT101"
pub data Message : Type 0 where
  mt103 : Transfer → Message
  mt101 : Order → Message

-- an MT103, from its bytes
unfoldable pub read_transfer : List ℕ → Option Message
read_transfer s =
    then (take_rows transfer_rows (body s)) (λ r.
    then (transfer_of (sender s) r.rows) (λ t.
    given (is_closing_line r.others) (mt103 t)))

-- an MT101, from its bytes
unfoldable pub read_order : List ℕ → Option Message
read_order s =
    then (take_rows order_rows (body s)) (λ r.
    then (details 4096 r.others) (λ ds.
    some (mt101 record { sender = sender s; rows = r.rows; details = ds })))

-- a message whose fields stand in their order and form and whose dates exist
unfoldable pub read : List ℕ → Option Message
read s = cond (equal (type s) (ascii "103")) (read_transfer s) (read_order s)

-- ---- what both have

-- "sender"
unfoldable pub sender_of : Message → List ℕ
sender_of (mt103 t) = t.sender
sender_of (mt101 o) = o.sender

-- "field 20"
unfoldable pub reference_of : Message → List ℕ
reference_of (mt103 t) = field20 t.rows
reference_of (mt101 o) = field20 o.rows

-- the details, of which an MT103 has none
unfoldable pub details_of : Message → List Detail
details_of (mt103 t) = []
details_of (mt101 o) = o.details

-- "`CENTRB`, date": of the first detail
unfoldable pub first_date : List Detail → ℕ
first_date [] = 0
first_date (d ∷ ds) = d.date

-- the centralisation date: an MT103's "is 32A's", an MT101's is that of its details
unfoldable pub date_of : Message → ℕ
date_of (mt103 t) = t.date
date_of (mt101 o) = first_date o.details

-- what a message adds to its position's transferred
unfoldable pub transferred_by : Message → ℕ
transferred_by (mt103 t) = t.amount
transferred_by (mt101 o) = 0

-- "all its 32B amounts"
unfoldable pub sum_of_amounts : List Detail → ℕ
sum_of_amounts [] = 0
sum_of_amounts (d ∷ ds) = d.amount + sum_of_amounts ds

-- what it adds to its position's detailed, "credited and returned both"
unfoldable pub detailed_by : Message → ℕ
detailed_by m = sum_of_amounts (details_of m)
