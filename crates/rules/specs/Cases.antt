-- Document 01's marked cases, one table: what a text is, as IBAN, amount or date, and one theorem over it.
use Rattle.std.specs.Prelude.{◌≡◌, refl, List, [], ◌∷◌, map, ℕ}
use Rattle.std.proofs.Math.Option.{Option, none, some}
use Prim.Native.String.{String}
use Rattle.rules.specs.Text.{ascii, given, is_digit, is_letter, is_alnum, fits, fits_sign, digits_from}
use Rattle.rules.specs.Dates.{date, exists, leap_row, month_length}
use Rattle.rules.specs.Amounts.{amount, levs, decimals}
use Rattle.rules.specs.Accounts.{passes, iban_shape, control, remainder, numeral, with_sign}

-- what a marked text is tried as
pub data TriedAs : Type 0 where
  iban : TriedAs
  sum : TriedAs
  day : TriedAs

-- a marked case: its kind, its text, and what it means
pub record Case : Type 0 where
  pub kind : TriedAs
  pub text : String
  pub means : Option ℕ

-- an IBAN that passes means 1
abbrev pub meaning : TriedAs → List ℕ → Option ℕ
meaning iban cs = given (passes cs) 1
meaning sum cs = amount cs
meaning day cs = date cs

-- a row of the table
abbrev pub case : TriedAs → String → Option ℕ → Case
case k s o = record { kind = k; text = s; means = o }

-- "Marked cases": IBANs that pass and fail, amounts, dates that exist and don't
abbrev pub cases : List Case
cases =
    case iban "BG33AAAA12311012345678" (some 1)
    ∷ case iban "BG80BNBG96611020345678" (some 1)
    ∷ case iban "BG56BNBG96613000000001" (some 1)
    ∷ case iban "BG34AAAA12311012345678" none
    ∷ case sum "7," (some 700)
    ∷ case sum "7,2" (some 720)
    ∷ case sum "0,01" (some 1)
    ∷ case sum ",50" none
    ∷ case sum "7" none
    ∷ case sum "7,205" none
    ∷ case day "040229" (some 40229)
    ∷ case day "000229" (some 229)
    ∷ case day "060229" none
    ∷ case day "060431" none
    ∷ []

-- each text of the table means what the table says
pub marked : map (λ (c : Case). meaning c.kind (ascii c.text)) cases ≡ map (λ (c : Case). c.means) cases
unfolding is_digit is_letter is_alnum fits fits_sign digits_from date exists leap_row month_length amount levs decimals passes iban_shape control remainder numeral with_sign
marked = refl
