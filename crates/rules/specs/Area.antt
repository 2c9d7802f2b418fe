-- The engine area: "It stands between calls in the first 6,144 bytes of a lent area; those behind are not touched." The layout is this module's, the calls on areas are document 01's.
use Rattle.std.specs.Prelude.{◌&&◌, cond, List, [], ◌∷◌, ◌++◌, map, ℕ, zero, suc, ◌+◌, ◌-◌, ◌*◌, leb, eqb, ℤ, pos, length, take, drop, replicate}
use Rattle.std.proofs.Math.Option.{Option, none, some}
use Rattle.rules.specs.Text.{ascii, equal, bytes, big_endian, given, over}
use Rattle.rules.specs.Engine.{Key, Position, Reference, Engine, within}
pub use Rattle.rules.specs.Engine.{area_size}
use Rattle.rules.specs.Calls.{Answer, open_call, message_call, turn_call}
use Rattle.rules.specs.Moves.{newer_call, older_call}

-- ---- layout: numbers are big-endian, unused room is zero
--   0  mark (2), day (3), outgoing count (2), positions (1), references (1), currency (1), lengths of at most three texts (2 each)
--   16  64 references of 24 bytes: sender (8), reference (16)
--   1,552  32 positions of 24 bytes: key (12), that is bank (8), date (3) and block (1), transferred (6), detailed (6)
--   2,320  texts one behind the other, 3,824 bytes: the register, the holiday list

-- where the header's numbers stand: day, outgoing count, how many positions and references, currency, lengths of texts
abbrev pub day_place : ℕ
day_place = 2

abbrev pub count_place : ℕ
count_place = 5

abbrev pub many_positions_place : ℕ
many_positions_place = 7

abbrev pub many_references_place : ℕ
many_references_place = 8

abbrev pub currency_place : ℕ
currency_place = 9

abbrev pub lengths_place : ℕ
lengths_place = 10

-- where the sections begin: references, positions, texts; and where the area ends
abbrev pub references_place : ℕ
references_place = 16

abbrev pub positions_place : ℕ
positions_place = 1552

abbrev pub texts_place : ℕ
texts_place = 2320

-- the room of the lengths, of each section, and of a record
abbrev pub lengths_room : ℕ
lengths_room = 6

abbrev pub references_room : ℕ
references_room = 1536

abbrev pub positions_room : ℕ
positions_room = 768

abbrev pub texts_room : ℕ
texts_room = 3824

abbrev pub record_size : ℕ
record_size = 24

-- where a position's parts begin in its record
abbrev pub date_offset : ℕ
date_offset = 8

abbrev pub block_offset : ℕ
block_offset = 11

abbrev pub transferred_offset : ℕ
transferred_offset = 12

abbrev pub detailed_offset : ℕ
detailed_offset = 18

-- "zeros hold no engine": n of them
unfoldable pub zeros : ℕ → List ℕ
zeros n = replicate n 0

-- n bytes: cs and zeros behind
unfoldable pub padded : ℕ → List ℕ → List ℕ
padded n cs = cs ++ zeros (n - length cs)

-- records one behind the other
unfoldable pub joined : List (List ℕ) → List ℕ
joined [] = []
joined (x ∷ xs) = x ++ joined xs

-- "references accepted today with their senders": one of them
unfoldable pub reference_record : Reference → List ℕ
reference_record r = bytes 8 r.sender ++ padded 16 r.text

-- the key of a position, with a byte for its block
unfoldable pub key_bytes : Key → List ℕ
key_bytes k = bytes 8 k.bank ++ bytes 3 k.date ++ bytes 1 0

-- "open positions": one of them
unfoldable pub position_record : Position → List ℕ
position_record p = key_bytes p.key ++ bytes 6 p.transferred ++ bytes 6 p.detailed

-- the texts of an engine, in the order in which they stand: the register, the holiday list
unfoldable pub texts_of : Engine → List (List ℕ)
texts_of e = e.register ∷ e.holidays ∷ []

-- the length of a text
unfoldable pub length_record : List ℕ → List ℕ
length_record t = bytes 2 (length t)

-- the lengths of some texts, in room for three
unfoldable pub lengths_of : List (List ℕ) → List ℕ
lengths_of ts = padded lengths_room (joined (map length_record ts))

-- the mark of an area that holds an engine: "zeros hold no engine"
abbrev pub mark : List ℕ
mark = ascii "RC"

-- day, outgoing number and the numbers of positions and references, behind the mark; currency and lengths
unfoldable pub header : Engine → List ℕ
header e =
    (mark ++ bytes 3 e.day ++ bytes 2 e.count ++ bytes 1 (length e.positions) ++ bytes 1 (length e.references))
    ++ (bytes 1 0 ++ lengths_of (texts_of e))

-- "An engine is the register, day, open positions, references .., and outgoing number.": as it stands in 6,144 bytes
unfoldable pub encode : Engine → List ℕ
encode e =
    header e
    ++ padded references_room (joined (map reference_record e.references))
    ++ padded positions_room (joined (map position_record e.positions))
    ++ padded texts_room (joined (texts_of e))

-- ---- reading an area

-- the number in w bytes from i
abbrev pub number_at : List ℕ → ℕ → ℕ → ℕ
number_at a i w = big_endian (take w (drop i a))

-- the bytes before the first zero
unfoldable pub until_zero : List ℕ → List ℕ
until_zero [] = []
until_zero (c ∷ cs) = let r = until_zero cs in cond (eqb c 0) [] (c ∷ r)

-- the reference of a record, and the position of one
unfoldable pub reference_in : List ℕ → Reference
reference_in r = record { sender = number_at r 0 8; text = until_zero (take 16 (drop 8 r)) }

-- "One position per sender and centralisation date": the key of a record
unfoldable pub key_in : List ℕ → Key
key_in r = record { bank = number_at r 0 8; date = number_at r date_offset 3 }

-- its position
unfoldable pub position_in : List ℕ → Position
position_in r = record { key = key_in r; transferred = number_at r transferred_offset 6; detailed = number_at r detailed_offset 6 }

-- the length of text k
abbrev pub length_at : List ℕ → ℕ → ℕ
length_at a k = number_at a (lengths_place + 2 * k) 2

-- where text k begins: behind those before it
unfoldable pub text_place : List ℕ → ℕ → ℕ
text_place a zero = texts_place
text_place a (suc k) = text_place a k + length_at a k

-- text k
unfoldable pub text_at : List ℕ → ℕ → List ℕ
text_at a k = take (length_at a k) (drop (text_place a k) a)

-- n records of w bytes
unfoldable pub records_of : ℕ → ℕ → List ℕ → List (List ℕ)
records_of w zero cs = []
records_of w (suc n) cs = take w cs ∷ records_of w n (drop w cs)

-- n records of a section
abbrev pub records : ℕ → List ℕ → List (List ℕ)
records n cs = records_of record_size n cs

-- the engine that the bytes say, within the limits or not
unfoldable pub decode : List ℕ → Engine
decode a = record {
  register = text_at a 0;
  holidays = text_at a 1;
  day = number_at a day_place 3;
  positions = map position_in (records (number_at a many_positions_place 1) (drop positions_place a));
  references = map reference_in (records (number_at a many_references_place 1) (drop references_place a));
  count = number_at a count_place 2;
}

-- the engine that an area holds; none falls under 10: "the engine area is shorter than 6,144 bytes or .. holds no engine within the limits above"
unfoldable pub holds : List ℕ → Option Engine
holds a = let e = decode a in given (leb area_size (length a) && within e && equal (encode e) (take area_size a)) e

-- ---- the calls on areas

-- what a call answers, and area and output as it leaves them
pub record Result : Type 0 where
  pub number : ℕ
  pub written : ℕ
  pub difference : ℤ
  pub area : List ℕ
  pub output : List ℕ

-- "an acceptance leaves the next engine there"
unfoldable pub stored : Option Engine → List ℕ → List ℕ
stored none area = area
stored (some e) area = encode e ++ drop area_size area

-- "a refusal changes no byte of output or area"
unfoldable pub on_areas : Answer → List ℕ → List ℕ → Result
on_areas a area out =
    cond (eqb a.number 0)
    (record { number = 0; written = length a.text; difference = a.difference; area = stored a.next area; output = over a.text out })
    (record { number = a.number; written = 0; difference = pos 0; area = area; output = out })

-- opening has no output
unfoldable pub card_open : List ℕ → List ℕ → ℕ → List ℕ → Result
card_open text list day area = on_areas (open_call (length area) (holds area) text list day) area []

-- a message, with the engine area and the output lent to the call
unfoldable pub card_message : List ℕ → List ℕ → List ℕ → Result
card_message s area out = on_areas (message_call (length out) (holds area) s) area out

-- a turn, with the engine area and the output lent to the call
unfoldable pub card_turn : ℕ → List ℕ → List ℕ → Result
card_turn day area out = on_areas (turn_call (length out) (holds area) day) area out

-- the moves of a register's text, with the output alone lent to the call
unfoldable pub card_newer : List ℕ → List ℕ → Result
card_newer text out = on_areas (newer_call (length out) none text) [] out

unfoldable pub card_older : List ℕ → List ℕ → Result
card_older text out = on_areas (older_call (length out) none text) [] out
