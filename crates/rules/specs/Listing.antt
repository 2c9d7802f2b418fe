-- Document 01, "Written": the worked listing as a theorem, with the return of document 02, CR 1, no holidays (CR 2) and the register's last line (CR 6). Every line ends in CR LF.
use Rattle.std.specs.Prelude.{◌≡◌, refl, List, [], ◌∷◌, ◌++◌, ℕ}
use Prim.Native.String.{String}
use Rattle.rules.specs.Text.{ascii, is_digit, is_letter, is_alnum, is_text, every, run, equal, fits_sign, fits, read_each, any, passing, read_leading, twice, ordered, text_before, digits_from, places, width, number_from, added_up, over}
use Rattle.rules.specs.Dates.{leap_row, month_length, exists, date}
use Rattle.rules.specs.Amounts.{decimals, levs, amount, written}
use Rattle.rules.specs.Accounts.{is_bic, iban_shape, with_sign, numeral, remainder, control, passes}
use Rattle.rules.specs.Lines.{lead, take_line, lines, parted, last_is_closing, is_closing_line, has_first_line, framed, type, sender, receiver, body}
use Rattle.rules.specs.BankingDays.{days_to_year, days_to, weekday, is_weekend, holidays, holidays_of, is_listed, is_banking_day}
use Rattle.rules.specs.Forms.{text_line, fits_rest, fits_row, lead_rows, take_rows}
use Rattle.rules.specs.Messages.{row_text, rows_text, transfer_of, detail_of, take_detail, details, read_transfer, read_order, read, sender_of, reference_of, details_of, first_date, date_of, transferred_by, sum_of_amounts, detailed_by}
use Rattle.rules.specs.Register.{account_line, code_line, sound_accounts, same_code, is_foreign, sound_codes, sound, of_lines, before_end, register, register_of}
use Rattle.rules.specs.Verdict.{found, shaped, in_bounds, judged, verdict, iban_beside, line_by_code, by_line, by_code, is_returned, is_listed199}
use Rattle.rules.specs.Engine.{is_bank, key_before, same_key, position_of, is_open, booked, has_details, kept, slashes_from, slashed, same_reference, precedes, filed, good_position, good_positions, good_reference, good_references, within}
use Rattle.rules.specs.Written.{posting, reference, first_line, field, field32a, temporary_field, baeref_row, listed_rows, all_listed, linked, position79, closed79, mt199, parts_of, mt199s, verdicts, return103, return_of, returns, field72, mt204, mt205, corrected, is_refunded, correction_posting, correction, correction_postings, corrections, corrected_count}
use Rattle.rules.specs.Calls.{first_of, answered, holds_of, open_stops, accepted_opening, opened, open_call, addressed, bad_reference, bad_sum, bad_amount, foreign_payer, bad_account, many_dates, misdated, position_after, no_room, over_limit, verdict_is, detail_posting, detail_postings, postings, has_verdict, parts_written, messages_written, message_text, after_message, form_stops, input_stops, limit_stops, room_stops, state_stops, message_stops, accepted_message, both_of, message_call, turn_text, turn_stops, refunded, collected, after_turn, accepted_turn, turn_call}
use Rattle.rules.specs.Replay.{replay, six_digits, length_of, parted_lengths, texts_in, with_texts, texts_behind, single, opening, command_of, command, signed, printed, called, onward, replay_from, replay_in}

-- texts one below the other
abbrev pub lined : List String → List ℕ
lined [] = []
lined (s ∷ ss) = ascii s ++ ascii "\r\n" ++ lined ss

-- "Opened 060302 with BG80.. as temporary account ..; AAAABGSF transfers 100,00; details ..; turn to 060303"
abbrev pub input : List String
input =
    "O,060302,67,0"
    ∷ "BG80BNBG96611020345678"
    ∷ "BG56BNBG96613000000001,000000,999999"
    ∷ "END"
    ∷ "M,277"
    ∷ "103,AAAABGSF,BNBGBGSD"
    ∷ ":20:T1"
    ∷ ":23B:CRED"
    ∷ ":32A:060302BGN100,00"
    ∷ ":50K:/BG33AAAA12311012345678"
    ∷ "BANKA A"
    ∷ ":52D:AAAA1231"
    ∷ "BANKA A"
    ∷ ":57D:BNBG9661"
    ∷ "BNB"
    ∷ ":59:/BG80BNBG96611020345678"
    ∷ "VREMENNA SMETKA NA MF"
    ∷ ":70:CENTRALIZIRANE"
    ∷ ":71A:OUR"
    ∷ ":72:/DTYPE/PORD"
    ∷ "/BAEREF/060302A0"
    ∷ "/CENTRB/"
    ∷ "-"
    ∷ "M,411"
    ∷ "101,AAAABGSF,BNBGBGSD"
    ∷ ":20:D1"
    ∷ ":21:1"
    ∷ ":32B:BGN60,00"
    ∷ ":50H:/BG33AAAA12311012345678PAY000001"
    ∷ "PREDPRIATIE"
    ∷ ":52D:AAAA1231"
    ∷ "BANKA A"
    ∷ ":59:/BG56BNBG96613000000001"
    ∷ "POLUCHATEL"
    ∷ ":70:CENTRB060302"
    ∷ "BAEREF060302A1"
    ∷ "OSNOVANIE"
    ∷ ":21:2"
    ∷ ":32B:BGN54,00"
    ∷ ":50H:/BG33AAAA12311012345678PAY000001"
    ∷ "PREDPRIATIE"
    ∷ ":52D:AAAA1231"
    ∷ "BANKA A"
    ∷ ":59:/BG57BNBG96613000000001PAY000001"
    ∷ "POLUCHATEL"
    ∷ ":70:CENTRB060302"
    ∷ "BAEREF060302A2"
    ∷ "OSNOVANIE"
    ∷ "-"
    ∷ "T,060303"
    ∷ []

-- what it prints
abbrev pub output : List String
output =
    "0,0"
    ∷ "0,10000"
    ∷ "060302,AAAABGSF,BG80BNBG96611020345678,10000,AAAABGSF,060302"
    ∷ "0,-1400"
    ∷ "060302,BG80BNBG96611020345678,BG56BNBG96613000000001,6000,AAAABGSF,060302"
    ∷ "060302,BG80BNBG96611020345678,AAAABGSF,5400,AAAABGSF,060302"
    ∷ "199,BNBGBGSD,AAAABGSF"
    ∷ ":20:060302GA000001"
    ∷ ":79:/CENTRB/060302"
    ∷ "100,00"
    ∷ "114,00"
    ∷ "14,00"
    ∷ "NEKOREKTNI SMETKI"
    ∷ "AAAA1231/060302/A2"
    ∷ "BG57BNBG96613000000001PAY000001"
    ∷ "1/1"
    ∷ "-"
    ∷ "103,BNBGBGSD,AAAABGSF"
    ∷ ":20:060302GA000002"
    ∷ ":23B:CRED"
    ∷ ":32A:060302BGN54,00"
    ∷ ":50K:/BG80BNBG96611020345678"
    ∷ "SMETKA ZA RAZPREDELENIE NA PREVODI"
    ∷ ":52D:BNBG9661"
    ∷ "BNB"
    ∷ ":57D:AAAA1231"
    ∷ "BANKA A"
    ∷ ":59:/BG33AAAA12311012345678PAY000001"
    ∷ "PREDPRIATIE"
    ∷ ":70:VRASHTANE CENTRB060302"
    ∷ ":71A:OUR"
    ∷ ":72:/DTYPE/PORD"
    ∷ "/BAEREF/060302000002"
    ∷ "-"
    ∷ "0,-1400"
    ∷ "060303,AAAABGSF,BG80BNBG96611020345678,1400,AAAABGSF,060302"
    ∷ "204,BNBGBGSD,AAAABGSF"
    ∷ ":20:060303GA000001"
    ∷ ":19:14,00"
    ∷ ":30:060303"
    ∷ ":58D:/BG80BNBG96611020345678"
    ∷ "SMETKA ZA RAZPREDELENIE NA PREVODI"
    ∷ ":20:060303GA000001"
    ∷ ":32B:BGN14,00"
    ∷ ":53A:AAAABGSF"
    ∷ ":72:/BAEREF/060303000001"
    ∷ "/RELREF/ERRCENTRB060302"
    ∷ "//RAZLIKA OT CENTRALIZACIA NA BS"
    ∷ "//SUMA PREZ RINGS 100.00"
    ∷ "//SUMA PREZ BISERA 114.00"
    ∷ "-"
    ∷ []

-- the replay of the one is the other, byte for byte
pub listing : replay (lined input) ≡ lined output
unfolding is_digit is_letter is_alnum is_text every run equal fits_sign fits read_each digits_from places width number_from added_up over leap_row month_length exists date days_to_year days_to weekday is_weekend holidays holidays_of is_listed is_banking_day decimals levs amount written is_bic iban_shape with_sign numeral remainder control passes lead take_line lines parted last_is_closing is_closing_line has_first_line framed type sender receiver body text_line fits_rest fits_row lead_rows take_rows row_text rows_text transfer_of detail_of take_detail details read_transfer read_order read sender_of reference_of details_of first_date date_of transferred_by sum_of_amounts detailed_by account_line code_line sound_accounts same_code is_foreign sound_codes read_leading any passing twice ordered text_before sound of_lines before_end register register_of found shaped in_bounds judged verdict iban_beside line_by_code by_line by_code is_returned is_listed199 is_bank key_before same_key position_of is_open booked has_details kept slashes_from slashed same_reference precedes filed good_position good_positions good_reference good_references within posting reference first_line field field32a temporary_field baeref_row listed_rows all_listed linked position79 closed79 mt199 parts_of mt199s verdicts return103 return_of returns field72 mt204 mt205 corrected is_refunded correction_posting correction correction_postings corrections corrected_count first_of answered holds_of open_stops accepted_opening opened open_call addressed bad_reference bad_sum bad_amount foreign_payer bad_account many_dates misdated position_after no_room over_limit verdict_is detail_posting detail_postings postings has_verdict parts_written messages_written message_text after_message form_stops input_stops limit_stops room_stops state_stops message_stops accepted_message both_of message_call turn_text turn_stops refunded collected after_turn accepted_turn turn_call six_digits length_of parted_lengths texts_in with_texts texts_behind single opening command_of command signed printed called onward replay_from replay_in
listing = refl
