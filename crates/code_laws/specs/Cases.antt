-- Codes, two tables: registers with code lines and a last line, and details judged by one of them.
use Rattle.std.specs.Prelude.{◌≡◌, refl, Bool, true, false, List, [], ◌∷◌, ◌++◌, map, ℕ}
use Prim.Native.String.{String}
use Rattle.rules.specs.Text.{ascii, is_digit, is_letter, is_alnum, equal, fits_sign, fits, is_some, read_each, read_leading, any, twice, digits_from}
use Rattle.rules.specs.Accounts.{iban_shape, with_sign, numeral, remainder, control, passes}
use Rattle.rules.specs.Lines.{lines}
use Rattle.rules.specs.Register.{account_line, code_line, sound_accounts, same_code, is_foreign, sound_codes, sound, of_lines, before_end, register, register_of}
use Rattle.rules.specs.Verdict.{Verdict, credited, credited_by_code, returned, wrong_shape, wrong_control, not_in_register, out_of_bounds, found, shaped, in_bounds, judged, verdict, iban_beside, line_by_code, by_line, by_code}
use Rattle.rules.specs.Listing.{lined}

-- ---- registers

-- the temporary account and two account lines
abbrev account_lines : List String
account_lines = "BG80BNBG96611020345678" ∷ "BG56BNBG96613000000001,000100,000200" ∷ "BG33AAAA12311012345678,000000,000000" ∷ []

-- code lines and the last line behind them, and whether such a register passes 9
pub record Registered : Type 0 where
  pub lines : List String
  pub passes : Bool

abbrev row : List String → Bool → Registered
row ls b = record { lines = ls; passes = b }

abbrev pub registers : List Registered
registers =
    row ("END" ∷ []) true
    ∷ row ("0000000000,BG56BNBG96613000000001" ∷ "1234567890,BG33AAAA12311012345678" ∷ "END" ∷ []) true
    -- "such an IBAN as often as wanted"
    ∷ row ("0000000000,BG56BNBG96613000000001" ∷ "1234567890,BG56BNBG96613000000001" ∷ "END" ∷ []) true
    -- "a code twice"
    ∷ row ("1234567890,BG56BNBG96613000000001" ∷ "1234567890,BG33AAAA12311012345678" ∷ "END" ∷ []) false
    -- "a foreign account": on no line, and the temporary one
    ∷ row ("1234567890,BG57BNBG96613000000001" ∷ "END" ∷ []) false
    ∷ row ("1234567890,BG80BNBG96611020345678" ∷ "END" ∷ []) false
    -- nine and eleven digits, and no digits
    ∷ row ("123456789,BG56BNBG96613000000001" ∷ "END" ∷ []) false
    ∷ row ("12345678901,BG56BNBG96613000000001" ∷ "END" ∷ []) false
    ∷ row ("12345678 0,BG56BNBG96613000000001" ∷ "END" ∷ []) false
    -- `END` missing, doubled, with something behind it on its line, and with a line behind it
    ∷ row [] false
    ∷ row ("1234567890,BG56BNBG96613000000001" ∷ []) false
    ∷ row ("END" ∷ "END" ∷ []) false
    ∷ row ("END " ∷ []) false
    ∷ row ("END" ∷ "1234567890,BG56BNBG96613000000001" ∷ []) false
    ∷ row ("END" ∷ "" ∷ []) false
    ∷ []

pub registered : map (λ (c : Registered). is_some (register (lined (account_lines ++ c.lines)))) registers ≡ map (λ (c : Registered). c.passes) registers
unfolding is_digit is_letter is_alnum equal fits_sign fits read_each read_leading any twice digits_from iban_shape with_sign numeral remainder control passes lines account_line code_line sound_accounts same_code is_foreign sound_codes sound of_lines before_end register
registered = refl

-- ---- details

-- field 59 behind its slash, the second line behind 50H's account, and the verdict
pub record Judged : Type 0 where
  pub account : String
  pub second : String
  pub means : Verdict

abbrev case : String → String → Verdict → Judged
case a s v = record { account = a; second = s; means = v }

-- the second register of the table
abbrev text : List ℕ
text = lined (account_lines ++ ("0000000000,BG56BNBG96613000000001" ∷ "1234567890,BG33AAAA12311012345678" ∷ "END" ∷ []))

abbrev pub details : List Judged
details =
    -- credited anyway
    case "BG56BNBG96613000000001" "1234567890" (credited 0)
    ∷ case "BG56BNBG96613000000001PAY000150" "" (credited 0)
    -- "The code is not tried against payment bounds.", also of the very account whose bounds refused
    ∷ case "BG56BNBG96613000000001PAY999999" "0000000000" (credited_by_code 0 out_of_bounds)
    ∷ case "BG56BNBG96613000000001PAY999999" "1234567890" (credited_by_code 1 out_of_bounds)
    -- the other causes
    ∷ case "BG57BNBG96613000000001PAY000001" "1234567890" (credited_by_code 1 wrong_control)
    ∷ case "NO ACCOUNT" "1234567890" (credited_by_code 1 wrong_shape)
    ∷ case "BG80BNBG96611020345678" "1234567890" (credited_by_code 1 not_in_register)
    -- no code, one that is not listed, and one that is not the whole line
    ∷ case "BG56BNBG96613000000001PAY999999" "" (returned out_of_bounds)
    ∷ case "NO ACCOUNT" "1234567891" (returned wrong_shape)
    ∷ case "NO ACCOUNT" "1234567890 " (returned wrong_shape)
    ∷ []

pub judgements : map (λ (c : Judged). by_code (register_of text) (ascii c.second) (verdict (register_of text) (ascii c.account))) details ≡ map (λ (c : Judged). c.means) details
unfolding is_digit is_letter is_alnum equal fits_sign fits read_each read_leading any twice digits_from iban_shape with_sign numeral remainder control passes lines account_line code_line sound_accounts same_code is_foreign sound_codes sound of_lines before_end register register_of found shaped in_bounds judged verdict iban_beside line_by_code by_line by_code
judgements = refl
