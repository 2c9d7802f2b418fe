-- Number 10 as tests of an area's bytes, in the order of the layout: what the code asks of header, references, positions and texts.
use Rattle.std.specs.Prelude.{Bool, ◌&&◌, ◌||◌, not, List, ℕ, ◌+◌, ◌-◌, ◌*◌, leb, eqb, length, take, drop}
use Rattle.rules.specs.Text.{is_text, every, run, equal, text_before, big_endian, is_some}
use Rattle.rules.specs.Dates.{exists}
use Rattle.rules.specs.Accounts.{is_bic}
use Rattle.rules.specs.BankingDays.{holidays}
use Rattle.rules.specs.Register.{register}
use Rattle.rules.specs.Engine.{Key, Position, key_before, limit, slashed}
use Rattle.rules.specs.Area.{mark, until_zero, key_in, position_in, area_size, positions_place, texts_place, record_size, block_offset, length_at, text_place, text_at, currency_place, lengths_place, references_place, day_place, count_place, many_positions_place, many_references_place}
use Rattle.laws.specs.Parts.{cut}
use Rattle.engine_laws.specs.Walk.{walk, always}
use Rattle.rule_laws.specs.Registers.{longest_register}
use Rattle.rule_laws.specs.Holidays.{longest_list}

-- "unused room is zero"
unfoldable pub is_zero : ℕ → Bool
is_zero c = eqb c 0

-- "at most 32", "at most 64 of them in all, outgoing number at most 32 + 18 × their count"
unfoldable pub counts_test : ℕ → ℕ → ℕ → Bool
counts_test count positions references = leb references 64 && (leb positions 32 && leb count (32 + 18 * references))

-- how many texts there are
abbrev pub text_count : ℕ
text_count = 2

-- mark, day, outgoing count, numbers of positions and references; currency, and the lengths behind those of the texts there are, are zero
unfoldable pub header_test : List ℕ → Bool
header_test a =
    equal (cut a 0 day_place) mark
    && (exists (big_endian (cut a day_place count_place))
    && (counts_test (big_endian (cut a count_place many_positions_place)) (big_endian (cut a many_positions_place many_references_place)) (big_endian (cut a many_references_place currency_place))
    && (every is_zero (cut a currency_place lengths_place)
    && every is_zero (cut a (lengths_place + 2 * text_count) references_place))))

-- ---- references

-- a reference's text in 16 bytes: R, which 5 lets pass, and zeros behind it
unfoldable pub text_fits : List ℕ → Bool
text_fits cs = run is_text 1 16 (until_zero cs) && (not (slashed (until_zero cs)) && every is_zero (cut cs (length (until_zero cs)) 16))

-- the record at a place
unfoldable pub reference_test : List ℕ → ℕ → Bool
reference_test a p = is_bic (cut a p (p + 8)) && text_fits (cut a (p + 8) (p + 8 + 16))

-- a sender and a text before another sender and text
unfoldable pub precedes_by : ℕ → List ℕ → ℕ → List ℕ → Bool
precedes_by sender text other later = not (leb other sender) || (eqb sender other && text_before text later)

-- it stands before the next one
unfoldable pub filed_test : List ℕ → ℕ → Bool
filed_test a p = precedes_by (big_endian (cut a p (p + 8))) (cut a (p + 8) (p + 8 + 16)) (big_endian (cut a (p + record_size) (p + record_size + 8))) (cut a (p + record_size + 8) (p + record_size + 8 + 16))

unfoldable pub references_test : List ℕ → ℕ → Bool
references_test a n = walk (always (reference_test a)) n references_place && (walk (always (filed_test a)) (n - 1) references_place && every is_zero (cut a (references_place + record_size * n) positions_place))

-- ---- positions

-- what the record at a place says, by the reader of its 24 bytes
unfoldable pub value_at : {A : Type 0} → (List ℕ → A) → List ℕ → ℕ → A
value_at reads a p = reads (take record_size (drop p a))

-- the key and the position at a place
abbrev pub key_at : List ℕ → ℕ → Key
key_at a p = value_at key_in a p

abbrev pub position_at : List ℕ → ℕ → Position
position_at a p = value_at position_in a p

unfoldable pub date_test : ℕ → ℕ → Bool
date_test day date = exists date && leb date day

-- a position's date and both totals
unfoldable pub values_test : ℕ → Position → Bool
values_test day p = date_test day p.key.date && (leb p.transferred limit && leb p.detailed limit)

-- a record: a bank, no block, and these
unfoldable pub position_fits : ℕ → List ℕ → Bool
position_fits day r = is_bic (take 8 r) && (every is_zero (take 1 (drop block_offset r)) && values_test day (position_in r))

-- the record at a place
unfoldable pub position_test : ℕ → List ℕ → ℕ → Bool
position_test day a p = value_at (position_fits day) a p

-- it stands before the next one
unfoldable pub order_test : List ℕ → ℕ → Bool
order_test a p = key_before (key_at a p) (key_at a (p + record_size))

unfoldable pub positions_test : ℕ → List ℕ → ℕ → Bool
positions_test day a n = walk (always (position_test day a)) n positions_place && (walk (always (order_test a)) (n - 1) positions_place && every is_zero (cut a (positions_place + record_size * n) texts_place))

-- ---- texts

-- text k has at most m bytes and passes a test of its own
unfoldable pub text_test : ℕ → (List ℕ → Bool) → List ℕ → ℕ → Bool
text_test m passes a k = leb (length_at a k) m && passes (text_at a k)

-- it is a register, or a holiday list
unfoldable pub is_register : List ℕ → Bool
is_register t = is_some (register t)

unfoldable pub is_list : List ℕ → Bool
is_list t = is_some (holidays t)

abbrev pub register_test : List ℕ → ℕ → Bool
register_test a k = text_test longest_register is_register a k

abbrev pub list_test : List ℕ → ℕ → Bool
list_test a k = text_test longest_list is_list a k

-- each text passes its own test, and zeros stand behind the last
unfoldable pub texts_test : List ℕ → Bool
texts_test a = register_test a 0 && (list_test a 1 && every is_zero (cut a (text_place a text_count) area_size))

-- ---- all of them

unfoldable pub area_test : List ℕ → Bool
area_test a =
    leb area_size (length a)
    && (header_test a
    && (references_test a (big_endian (cut a many_references_place currency_place))
    && (positions_test (big_endian (cut a day_place count_place)) a (big_endian (cut a many_positions_place many_references_place))
    && texts_test a)))
