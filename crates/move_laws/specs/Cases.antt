-- Moves of registers' texts, one table: what is moved, how long the output is, and the number answered.
use Rattle.std.specs.Prelude.{◌≡◌, refl, List, [], ◌∷◌, ◌++◌, map, ℕ}
use Rattle.std.proofs.Math.Option.{none}
use Prim.Native.String.{String}
use Rattle.rules.specs.Text.{is_digit, is_letter, is_alnum, equal, fits_sign, fits, read_each, read_leading, any, twice, digits_from}
use Rattle.rules.specs.Accounts.{iban_shape, with_sign, numeral, remainder, control, passes}
use Rattle.rules.specs.Lines.{lines}
use Rattle.rules.specs.Register.{account_line, code_line, sound_accounts, same_code, is_foreign, sound_codes, sound, of_lines, before_end, register, register_of, old_of_lines, old_register}
use Rattle.rules.specs.Calls.{first_of, answered}
use Rattle.rules.specs.Moves.{with_end, without_end, has_codes, newer_stops, older_stops, newer_call, older_call}
use Rattle.rules.specs.Services.{Service, newer, older, service_call}
use Rattle.rules.specs.Listing.{lined}

-- a text, to be moved to the newer form or to the older, with an output of this length, and the number answered
pub record Case : Type 0 where
  pub service : Service
  pub room : ℕ
  pub number : ℕ

-- the temporary account and an account line, which have 62 bytes, and lines behind them
abbrev text : List String → List ℕ
text ls = lined (("BG80BNBG96611020345678" ∷ "BG56BNBG96613000000001,000100,000200" ∷ []) ++ ls)

-- a row of the table
abbrev case : (List ℕ → Service) → List ℕ → ℕ → ℕ → Case
case f s n k = record { service = f s; room = n; number = k }

abbrev pub cases : List Case
cases =
    -- an old text, and a byte of room too few
    case newer (text []) 67 0
    ∷ case newer (text []) 66 16
    -- with `END`, with a code line, with both, and no text at all
    ∷ case newer (text ("END" ∷ [])) 200 9
    ∷ case newer (text ("1234567890,BG56BNBG96613000000001" ∷ [])) 200 9
    ∷ case newer (text ("1234567890,BG56BNBG96613000000001" ∷ "END" ∷ [])) 200 9
    ∷ case newer [] 200 9
    -- a new text, and a byte of room too few
    ∷ case older (text ("END" ∷ [])) 62 0
    ∷ case older (text ("END" ∷ [])) 61 16
    -- without `END`, with two of them, and `END` alone
    ∷ case older (text []) 200 9
    ∷ case older (text ("END" ∷ "END" ∷ [])) 200 9
    ∷ case older (lined ("END" ∷ [])) 200 9
    -- a right code line, also where there is no room, and a faulty one
    ∷ case older (text ("1234567890,BG56BNBG96613000000001" ∷ "END" ∷ [])) 200 19
    ∷ case older (text ("1234567890,BG56BNBG96613000000001" ∷ "END" ∷ [])) 0 19
    ∷ case older (text ("1234567890,BG57BNBG96613000000001" ∷ "END" ∷ [])) 0 9
    ∷ []

-- each move of the table is answered as the table says
pub answers : map (λ (c : Case). (service_call c.room none c.service).number) cases ≡ map (λ (c : Case). c.number) cases
unfolding is_digit is_letter is_alnum equal fits_sign fits read_each read_leading any twice digits_from iban_shape with_sign numeral remainder control passes lines account_line code_line sound_accounts same_code is_foreign sound_codes sound of_lines before_end register register_of old_of_lines old_register first_of answered with_end without_end has_codes newer_stops older_stops newer_call older_call service_call
answers = refl
