-- Document 01, "Written": posting lines, MT199, MT204 and MT205; document 02, CR 1: the MT103 of a return.
use Rattle.std.specs.Prelude.{Bool, ◌&&◌, not, cond, List, [], ◌∷◌, ◌++◌, ℕ, zero, suc, ◌+◌, ◌-◌, ◌/◌, leb, eqb, length, take, drop}
use Rattle.rules.specs.Text.{ascii, fixed, decimal}
use Rattle.rules.specs.Amounts.{with_comma, with_point}
use Rattle.rules.specs.Accounts.{bae_of}
use Rattle.rules.specs.Messages.{Detail, branch, payer_lines, branch_lines, account59, baeref_date, baeref_name}
use Rattle.rules.specs.Engine.{Position, bic, has_details}

-- ---- posting lines

-- what the lines of one call for one position share: the day, the temporary account, the bank and the centralisation date
pub record Book : Type 0 where
  pub day : ℕ
  pub temporary : List ℕ
  pub bank : ℕ
  pub date : ℕ

-- "Posting line: `day,debit,credit,stotinki,bank,centralisation date`."
unfoldable pub posting : Book → List ℕ → List ℕ → ℕ → List ℕ
posting b debit credit stotinki =
    (fixed 6 b.day ++ ascii "," ++ debit ++ ascii ",")
    ++ (credit ++ ascii "," ++ decimal stotinki ++ ascii ",")
    ++ (bic b.bank ++ ascii "," ++ fixed 6 b.date ++ ascii "\r\n")

-- "Transfer and collection: bank to temporary account."
abbrev pub from_bank : Book → ℕ → List ℕ
from_bank b v = posting b (bic b.bank) b.temporary v

-- "Credit: temporary account to the register's account."
abbrev pub to_account : Book → List ℕ → ℕ → List ℕ
to_account b iban v = posting b b.temporary iban v

-- "Return and refund: temporary account to bank."
abbrev pub to_bank : Book → ℕ → List ℕ
to_bank b v = posting b b.temporary (bic b.bank) v

-- ---- messages

-- "a message's reference is the day, `GA`, six digits from 000001"
unfoldable pub reference : ℕ → ℕ → List ℕ
reference day n = fixed 6 day ++ ascii "GA" ++ fixed 6 n

-- "Written messages open with type, BNBGBGSD, bank"
unfoldable pub first_line : List ℕ → ℕ → List ℕ
first_line type bank = type ++ ascii ",BNBGBGSD," ++ bic bank ++ ascii "\r\n"

-- a field of one line, by its tag
unfoldable pub field : List ℕ → List ℕ → List ℕ
field tag value = tag ++ value ++ ascii "\r\n"

-- 32A: "day, BGN, amount"
unfoldable pub field32a : ℕ → ℕ → List ℕ
field32a day v = ascii ":32A:" ++ fixed 6 day ++ ascii "BGN" ++ with_comma v ++ ascii "\r\n"

-- the temporary account in a field, with its name
unfoldable pub temporary_field : List ℕ → List ℕ → List ℕ
temporary_field tag temporary = field tag temporary ++ ascii "SMETKA ZA RAZPREDELENIE NA PREVODI\r\n"

-- "`/BAEREF/`, day and six-digit number"
unfoldable pub baeref_row : List ℕ → ℕ → ℕ → List ℕ
baeref_row tag day n = tag ++ fixed 6 day ++ fixed 6 n ++ ascii "\r\n"

-- "size of the difference"
abbrev pub size : ℕ → ℕ → ℕ
size a b = (a - b) + (b - a)

-- ---- MT199

-- "two rows for each returned detail", and "The MT199 still lists the detail" that its code credits: "52D's BAE, `/`, BAEREF's date, `/`, its N; then field 59 behind its slash"
unfoldable pub listed_rows : Detail → List ℕ
listed_rows d = (branch d ++ ascii "/" ++ baeref_date d ++ ascii "/" ++ baeref_name d ++ ascii "\r\n") ++ (account59 d ++ ascii "\r\n")

-- the rows of some details
unfoldable pub all_listed : List Detail → List ℕ
all_listed [] = []
all_listed (d ∷ ds) = listed_rows d ++ all_listed ds

-- "From part 2 on, field 21 behind 20 holds part 1's reference.": n is the number before part 1's
unfoldable pub linked : ℕ → ℕ → ℕ → List ℕ
linked day n part = cond (leb 2 part) (field (ascii ":21:") (reference day (n + 1))) []

-- the rows of 79 before the listed details
unfoldable pub position79 : ℕ → ℕ → ℕ → List ℕ
position79 date transferred detailed =
    field (ascii ":79:/CENTRB/") (fixed 6 date)
    ++ field [] (with_comma transferred)
    ++ field [] (with_comma detailed)
    ++ field [] (with_comma (size transferred detailed))
    ++ ascii "NEKOREKTNI SMETKI\r\n"

-- "part/parts", and the closing line
unfoldable pub closed79 : ℕ → ℕ → List ℕ
closed79 part parts = decimal part ++ ascii "/" ++ decimal parts ++ ascii "\r\n-\r\n"

-- one part of an MT199 on a position, after n messages written today
unfoldable pub mt199 : ℕ → ℕ → Position → ℕ → ℕ → List Detail → List ℕ
mt199 day n p part parts ds =
    (first_line (ascii "199") p.key.bank ++ field (ascii ":20:") (reference day (n + part)) ++ linked day n part)
    ++ position79 p.key.date p.transferred p.detailed
    ++ all_listed ds
    ++ closed79 part parts

-- "Without returned details it is one part, 1/1. Each part but the last has 14 details"
unfoldable pub parts_of : ℕ → ℕ
parts_of listed = cond (eqb listed 0) 1 ((listed + 13) / 14)

-- the parts from part on, k of them
unfoldable pub mt199s : ℕ → ℕ → ℕ → Position → ℕ → ℕ → List Detail → List ℕ
mt199s zero day n p part parts ds = []
mt199s (suc k) day n p part parts ds = mt199 day n p part parts (take 14 ds) ++ mt199s k day n p (part + 1) parts (drop 14 ds)

-- all parts for the listed details
unfoldable pub verdicts : ℕ → ℕ → Position → List Detail → List ℕ
verdicts day n p ds = let parts = parts_of (length ds) in mt199s parts day n p 1 parts ds

-- ---- MT103 of a return

-- "an MT103 from BNBGBGSD to the bank" with the number n and the amount v; 57D has "the detail's 52D lines", 59 "the account line and the first three further lines of 50H"
unfoldable pub return103 : Book → ℕ → ℕ → List ℕ → List ℕ → List ℕ
return103 b n v lines52D lines50H =
    (first_line (ascii "103") b.bank ++ field (ascii ":20:") (reference b.day n) ++ ascii ":23B:CRED\r\n" ++ field32a b.day v)
    ++ (temporary_field (ascii ":50K:/") b.temporary ++ field (ascii ":52D:") (bae_of b.temporary) ++ ascii "BNB\r\n")
    ++ (ascii ":57D:" ++ lines52D ++ ascii ":59:" ++ lines50H)
    ++ (field (ascii ":70:VRASHTANE CENTRB") (fixed 6 b.date) ++ ascii ":71A:OUR\r\n:72:/DTYPE/PORD\r\n" ++ baeref_row (ascii "/BAEREF/") b.day n ++ ascii "-\r\n")

-- the one of a detail
unfoldable pub return_of : Book → ℕ → Detail → List ℕ
return_of b n d = return103 b n d.amount (branch_lines d) (payer_lines d)

-- "each returned detail now produces an MT103", after n messages
unfoldable pub returns : Book → ℕ → List Detail → List ℕ
returns b n [] = []
returns b n (d ∷ ds) = return_of b (n + 1) d ++ returns b (n + 1) ds

-- ---- corrections

-- 72: "RELREF the centralisation date, the two sums a point"; and the closing line
unfoldable pub field72 : ℕ → ℕ → Position → List ℕ
field72 day n p =
    baeref_row (ascii ":72:/BAEREF/") day n
    ++ field (ascii "/RELREF/ERRCENTRB") (fixed 6 p.key.date)
    ++ ascii "//RAZLIKA OT CENTRALIZACIA NA BS\r\n"
    ++ field (ascii "//SUMA PREZ RINGS ") (with_point p.transferred)
    ++ (field (ascii "//SUMA PREZ BISERA ") (with_point p.detailed) ++ ascii "-\r\n")

-- MT204: "both 20 and 72's BAEREF carry one number, 30 the day, 19 and 32B the amount"
unfoldable pub mt204 : ℕ → List ℕ → ℕ → Position → ℕ → List ℕ
mt204 day temporary n p v =
    (first_line (ascii "204") p.key.bank ++ field (ascii ":20:") (reference day n) ++ field (ascii ":19:") (with_comma v) ++ field (ascii ":30:") (fixed 6 day))
    ++ (temporary_field (ascii ":58D:/") temporary ++ field (ascii ":20:") (reference day n))
    ++ (field (ascii ":32B:BGN") (with_comma v) ++ field (ascii ":53A:") (bic p.key.bank))
    ++ field72 day n p

-- "MT205: 20; 21, the same; 32A day, BGN, amount; 52A BNBGBGSD; 58A bank; 72 as in the MT204"
unfoldable pub mt205 : ℕ → ℕ → Position → ℕ → List ℕ
mt205 day n p v =
    (first_line (ascii "205") p.key.bank ++ field (ascii ":20:") (reference day n) ++ field (ascii ":21:") (reference day n))
    ++ field32a day v
    ++ (ascii ":52A:BNBGBGSD\r\n" ++ field (ascii ":58A:") (bic p.key.bank))
    ++ field72 day n p

-- a position that a turn corrects: it has details, and its totals differ
unfoldable pub corrected : Position → Bool
corrected p = has_details p && not (eqb p.transferred p.detailed)

-- "transferred minus detailed is refunded if positive (MT205), collected if negative (MT204)"
unfoldable pub is_refunded : Position → Bool
is_refunded p = leb p.detailed p.transferred

-- the posting line of a correction
unfoldable pub correction_posting : ℕ → List ℕ → Position → List ℕ
correction_posting day temporary p =
    let b : Book = record { day = day; temporary = temporary; bank = p.key.bank; date = p.key.date } in
    cond (is_refunded p) (to_bank b (p.transferred - p.detailed)) (from_bank b (p.detailed - p.transferred))

-- the message of a correction: MT205 or MT204
unfoldable pub correction : ℕ → List ℕ → ℕ → Position → List ℕ
correction day temporary n p =
    cond (is_refunded p) (mt205 day n p (p.transferred - p.detailed)) (mt204 day temporary n p (p.detailed - p.transferred))

-- the posting lines of a turn, "in the order of .. positions"
unfoldable pub correction_postings : ℕ → List ℕ → List Position → List ℕ
correction_postings day temporary [] = []
correction_postings day temporary (p ∷ ps) =
    let r = correction_postings day temporary ps in cond (corrected p) (correction_posting day temporary p ++ r) r

-- its messages, after n
unfoldable pub corrections : ℕ → List ℕ → ℕ → List Position → List ℕ
corrections day temporary n [] = []
corrections day temporary n (p ∷ ps) =
    let some = correction day temporary (n + 1) p ++ corrections day temporary (n + 1) ps in
    let none = corrections day temporary n ps in
    cond (corrected p) some none

-- how many they are
unfoldable pub corrected_count : List Position → ℕ
corrected_count [] = 0
corrected_count (p ∷ ps) = let r = corrected_count ps in cond (corrected p) (suc r) r
