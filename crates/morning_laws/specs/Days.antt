-- What may differ between two orders of a morning's messages: "Verdicts sent meanwhile .., and so may references of verdicts and returns", and the outgoing number. Two computed days, of the same four messages (the vectors one-bank-as-sent and one-bank-turned-round); posting lines and corrections stand beside it.
use Rattle.std.specs.Prelude.{◌≡◌, refl, Bool, ◌||◌, List, [], ◌∷◌, ◌++◌, map, ℕ, eqb, take}
use Prim.Native.String.{String}
use Rattle.rules.specs.Text.{ascii, big_endian, is_digit, is_letter, is_alnum, is_text, every, run, equal, fits_sign, fits, read_each, read_leading, any, twice, ordered, text_before, digits_from, places, width, number_from, added_up, over, passing}
use Rattle.rules.specs.Dates.{leap_row, month_length, exists, date}
use Rattle.rules.specs.Amounts.{decimals, levs, amount, written}
use Rattle.rules.specs.Accounts.{is_bic, iban_shape, with_sign, numeral, remainder, control, passes}
use Rattle.rules.specs.Lines.{lead, take_line, lines, parted, last_is_closing, is_closing_line, has_first_line, framed, type, sender, receiver, body, Line}
use Rattle.rules.specs.BankingDays.{days_to_year, days_to, weekday, is_weekend, holidays, holidays_of, is_listed, is_banking_day}
use Rattle.rules.specs.Forms.{text_line, fits_rest, fits_row, lead_rows, take_rows}
use Rattle.rules.specs.Messages.{row_text, rows_text, transfer_of, detail_of, take_detail, details, read_transfer, read_order, read, sender_of, reference_of, details_of, first_date, date_of, transferred_by, sum_of_amounts, detailed_by}
use Rattle.rules.specs.Register.{account_line, code_line, sound_accounts, same_code, is_foreign, sound_codes, sound, of_lines, before_end, register, register_of}
use Rattle.rules.specs.Verdict.{found, shaped, in_bounds, judged, verdict, iban_beside, line_by_code, by_line, by_code, is_returned, is_listed199}
use Rattle.rules.specs.Engine.{is_bank, key_before, same_key, position_of, is_open, booked, has_details, kept, slashes_from, slashed, same_reference, precedes, filed, good_position, good_positions, good_reference, good_references, within}
use Rattle.rules.specs.Written.{posting, reference, first_line, field, field32a, temporary_field, baeref_row, listed_rows, all_listed, linked, position79, closed79, mt199, parts_of, mt199s, verdicts, return103, return_of, returns, field72, mt204, mt205, corrected, is_refunded, correction_posting, correction, correction_postings, corrections, corrected_count}
use Rattle.rules.specs.Calls.{first_of, answered, holds_of, open_stops, accepted_opening, opened, open_call, addressed, bad_reference, bad_sum, bad_amount, foreign_payer, bad_account, many_dates, misdated, position_after, no_room, over_limit, verdict_is, detail_posting, detail_postings, postings, has_verdict, parts_written, messages_written, message_text, after_message, form_stops, input_stops, limit_stops, room_stops, state_stops, message_stops, accepted_message, both_of, message_call, turn_text, turn_stops, refunded, collected, after_turn, accepted_turn, turn_call}
use Rattle.rules.specs.Area.{zeros, padded, joined, reference_record, key_bytes, position_record, texts_of, length_record, lengths_of, header, encode, until_zero, reference_in, key_in, position_in, text_place, text_at, records_of, decode, holds, stored, on_areas, card_open, card_message, card_turn, area_size, number_at, count_place}
use Rattle.rules.specs.Ledger.{is_party, is_number, is_posting, posted_parts, posted, Event}
use Rattle.rules.specs.Demand3.{result, ran, Ran}
use Rattle.rules.specs.SameMornings.{lines_by, is_posting_line, posted_by, Sending, morning}
use Rattle.rules.specs.Listing.{lined}

-- ---- the day: a bank transfers 10,00 and 0,50 and details 4,00, 3,00 and 4,00 for one date, the 3,00 for an account that does not pass

-- a line of two parts
abbrev pub line : String → String → List ℕ
line tag value = ascii tag ++ ascii value ++ ascii "\r\n"

-- an MT103, by its field 20 and its amount
abbrev pub transfer : String → String → List ℕ
transfer name v =
    lined ("103,AAAABGSF,BNBGBGSD" ∷ [])
    ++ line ":20:" name
    ++ lined (":23B:CRED" ∷ [])
    ++ line ":32A:060302BGN" v
    ++ lined (":50K:/BG33AAAA12311012345678" ∷ "BANKA" ∷ ":52D:AAAA1231" ∷ "BANKA" ∷ ":57D:BNBG9661" ∷ "BNB" ∷ ":59:/BG80BNBG96611020345678" ∷ "SMETKA" ∷ [])
    ++ lined (":70:PREVOD" ∷ ":71A:OUR" ∷ ":72:/DTYPE/PORD" ∷ "/BAEREF/060302A0" ∷ "/CENTRB/" ∷ "-" ∷ [])

-- a detail, by its field 21, its amount, its account and the name in its BAEREF
abbrev pub detail : String → String → String → String → List ℕ
detail number v account name =
    line ":21:" number
    ++ line ":32B:BGN" v
    ++ lined (":50H:/BG33AAAA12311012345678PAY000001" ∷ "IME" ∷ ":52D:AAAA1231" ∷ "BANKA" ∷ [])
    ++ line ":59:/" account
    ++ lined ("POL" ∷ ":70:CENTRB060302" ∷ [])
    ++ line "BAEREF060302" name
    ++ lined ("OSN" ∷ [])

-- an MT101, by its field 20 and its details
abbrev pub order : String → List ℕ → List ℕ
order name ds = lined ("101,AAAABGSF,BNBGBGSD" ∷ []) ++ line ":20:" name ++ ds ++ lined ("-" ∷ [])

abbrev pub transfer1 : List ℕ
transfer1 = transfer "T1" "10,"

abbrev pub order1 : List ℕ
order1 = order "D1" (detail "1" "4," "BG56BNBG96613000000001" "N1" ++ detail "2" "3," "BG57BNBG96613000000001" "N2")

abbrev pub transfer2 : List ℕ
transfer2 = transfer "T2" "0,5"

abbrev pub order2 : List ℕ
order2 = order "D2" (detail "1" "4," "BG56BNBG96613000000001" "N1")

-- the area of an opening with the listing's register
abbrev pub area : List ℕ
area = (card_open (lined ("BG80BNBG96611020345678" ∷ "BG56BNBG96613000000001,000000,999999" ∷ "END" ∷ [])) [] 60302 (zeros area_size)).area

abbrev pub sending : List ℕ → Sending
sending text = record { text = text; output = zeros 1024 }

-- the messages in the order in which they were sent, and in the reverse
abbrev pub as_sent : Ran
as_sent = morning area (map sending (transfer1 ∷ order1 ∷ transfer2 ∷ order2 ∷ []))

abbrev pub turned_round : Ran
turned_round = morning area (map sending (order2 ∷ transfer2 ∷ order1 ∷ transfer1 ∷ []))

-- ---- what there is to see of a morning

-- a line that has a message's type or reference, or a sum of an MT199
unfoldable pub is_mark : Line → Bool
is_mark l = any (λ (tag : String). equal (take 4 l) (ascii tag)) ("103," ∷ "199," ∷ ":20:" ∷ []) || every (λ c. is_digit c || eqb c 44) l

-- the numbers answered, the posting lines, the lines that have such a mark, the outgoing number, and what the turn to 060303 then writes
pub record Seen : Type 0 where
  pub numbers : List ℕ
  pub postings : List Line
  pub marks : List Line
  pub outgoing : ℕ
  pub corrections : List ℕ

unfoldable pub seen : Ran → Seen
seen r =
    let t = card_turn 60303 r.area (zeros 1024) in
    record {
      numbers = map (λ (e : Event). e.number) r.events;
      postings = posted_by r.events;
      marks = lines_by is_mark r.events;
      outgoing = number_at r.area count_place 2;
      corrections = take t.written t.output;
    }

-- ---- what is expected

-- the posting lines: of both transfers, of a detail of 4,00, and of the one that is returned
abbrev pub cover1 : String
cover1 = "060302,AAAABGSF,BG80BNBG96611020345678,1000,AAAABGSF,060302"

abbrev pub cover2 : String
cover2 = "060302,AAAABGSF,BG80BNBG96611020345678,50,AAAABGSF,060302"

abbrev pub credit : String
credit = "060302,BG80BNBG96611020345678,BG56BNBG96613000000001,400,AAAABGSF,060302"

abbrev pub back : String
back = "060302,BG80BNBG96611020345678,AAAABGSF,300,AAAABGSF,060302"

-- an MT199: its reference and its three sums
abbrev pub judged199 : String → String → String → String → List Line
judged199 reference t d size = ascii "199,BNBGBGSD,AAAABGSF" ∷ (ascii ":20:060302GA" ++ ascii reference) ∷ ascii t ∷ ascii d ∷ ascii size ∷ []

-- the MT103 of a return: its reference
abbrev pub returned103 : String → List Line
returned103 reference = ascii "103,BNBGBGSD,AAAABGSF" ∷ (ascii ":20:060302GA" ++ ascii reference) ∷ []

-- what the turn writes, the same in both: 0,50 are collected, and the MT204 has the number 000001
abbrev pub corrected204 : List ℕ
corrected204 =
    lined ("060303,AAAABGSF,BG80BNBG96611020345678,50,AAAABGSF,060302" ∷ [])
    ++ mt204 60303 (ascii "BG80BNBG96611020345678") 1 record { key = record { bank = big_endian (ascii "AAAABGSF"); date = 60302 }; transferred = 1050; detailed = 1100 } 50

-- in the order in which they were sent: T1 finds no details and has no MT199
abbrev pub seen_as_sent : Seen
seen_as_sent = record {
  numbers = 0 ∷ 0 ∷ 0 ∷ 0 ∷ [];
  postings = map ascii (cover1 ∷ credit ∷ back ∷ cover2 ∷ credit ∷ []);
  marks = judged199 "000001" "10,00" "7,00" "3,00" ++ returned103 "000002" ++ judged199 "000003" "10,50" "7,00" "3,50" ++ judged199 "000004" "10,50" "11,00" "0,50";
  outgoing = 4;
  corrections = corrected204;
}

-- and in the reverse: each message has an MT199, other sums stand in all but the last, and the return has another reference
abbrev pub seen_turned_round : Seen
seen_turned_round = record {
  numbers = 0 ∷ 0 ∷ 0 ∷ 0 ∷ [];
  postings = map ascii (credit ∷ cover2 ∷ credit ∷ back ∷ cover1 ∷ []);
  marks =
      judged199 "000001" "0,00" "4,00" "4,00"
      ++ judged199 "000002" "0,50" "4,00" "3,50"
      ++ judged199 "000003" "0,50" "11,00" "10,50"
      ++ returned103 "000004"
      ++ judged199 "000005" "10,50" "11,00" "0,50";
  outgoing = 5;
  corrections = corrected204;
}

pub both_orders : map seen (as_sent ∷ turned_round ∷ []) ≡ seen_as_sent ∷ seen_turned_round ∷ []
unfolding seen is_mark is_digit is_letter is_alnum is_text every run equal fits_sign fits read_each read_leading any twice ordered text_before digits_from places width number_from added_up over passing leap_row month_length exists date decimals levs amount written is_bic iban_shape with_sign numeral remainder control passes lead take_line lines parted last_is_closing is_closing_line has_first_line framed type sender receiver body days_to_year days_to weekday is_weekend holidays holidays_of is_listed is_banking_day text_line fits_rest fits_row lead_rows take_rows row_text rows_text transfer_of detail_of take_detail details read_transfer read_order read sender_of reference_of details_of first_date date_of transferred_by sum_of_amounts detailed_by account_line code_line sound_accounts same_code is_foreign sound_codes sound of_lines before_end register register_of found shaped in_bounds judged verdict iban_beside line_by_code by_line by_code is_returned is_listed199 is_bank key_before same_key position_of is_open booked has_details kept slashes_from slashed same_reference precedes filed good_position good_positions good_reference good_references within posting reference first_line field field32a temporary_field baeref_row listed_rows all_listed linked position79 closed79 mt199 parts_of mt199s verdicts return103 return_of returns field72 mt204 mt205 corrected is_refunded correction_posting correction correction_postings corrections corrected_count first_of answered holds_of open_stops accepted_opening opened open_call addressed bad_reference bad_sum bad_amount foreign_payer bad_account many_dates misdated position_after no_room over_limit verdict_is detail_posting detail_postings postings has_verdict parts_written messages_written message_text after_message form_stops input_stops limit_stops room_stops state_stops message_stops accepted_message both_of message_call turn_text turn_stops refunded collected after_turn accepted_turn turn_call zeros padded joined reference_record key_bytes position_record texts_of length_record lengths_of header encode until_zero reference_in key_in position_in text_place text_at records_of decode holds stored on_areas card_open card_message card_turn is_party is_number is_posting posted_parts posted result ran lines_by is_posting_line
both_orders = refl
