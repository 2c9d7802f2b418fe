-- Document 01, "Messages read": the fields of MT103 and MT101 as tables of rows, one row for each line.
use Rattle.std.specs.Prelude.{◌≡◌, refl, Bool, true, false, ◌&&◌, not, cond, List, [], ◌∷◌, ◌++◌, map, ℕ, eqb, length, get_or, take, drop}
use Rattle.std.proofs.Math.Option.{Option, none, some}
use Prim.Native.String.{String}
use Rattle.rules.specs.Text.{ascii, is_text, is_alnum, run, fits, then}
use Rattle.rules.specs.Lines.{Line, take_line}

-- what stands behind a row's head: nothing; T; a reference R; the bytes behind an account line's slash; N; an amount, which is read with the message's parts
pub data Rest : Type 0 where
  nothing : Rest
  text : Rest
  reference : Rest
  account : Rest
  name : Rest
  sum : Rest

-- "A text line T has 1 to 35 bytes from 32 to 255, never 125, and doesn't begin with `:` or `-`."
unfoldable pub text_line : List ℕ → Bool
text_line cs = run is_text 1 35 cs && not (eqb (get_or cs 0 0) 58) && not (eqb (get_or cs 0 0) 45)

-- "An account line is `/` and 1 to 34 such bytes. A reference R is 1 to 16 such bytes. C is three letters, N one to twelve letters or digits."
unfoldable pub fits_rest : Rest → List ℕ → Bool
fits_rest nothing cs = eqb (length cs) 0
fits_rest text cs = text_line cs
fits_rest reference cs = run is_text 1 16 cs
fits_rest account cs = run is_text 1 34 cs
fits_rest name cs = run is_alnum 1 12 cs
fits_rest sum cs = true

-- a row: the pattern of a line's first bytes, what stands behind them, and whether the line may be left out
pub record Row : Type 0 where
  pub head : List ℕ
  pub rest : Rest
  pub optional : Bool

-- a line in the form of its row
unfoldable pub fits_row : Row → Line → Bool
fits_row r l = fits r.head (take (length r.head) l) && fits_rest r.rest (drop (length r.head) l)

-- a row whose line is never left out
abbrev pub row : String → Rest → List Row
row s r = record { head = ascii s; rest = r; optional = false } ∷ []

-- a further T, and one that may be left out
abbrev pub text_row : List Row
text_row = row "" text

-- "1 to 3 T", "1 to 4 T": a T that may be left out
abbrev pub more_row : List Row
more_row = record { head = []; rest = text; optional = true } ∷ []

-- "MT103: 20 R; 23B `CRED`; 32A date, C, amount; 50K account line | 1 to 3 T; 52D BAE | T; 57D BAE | T; 59 account line | 1 to 3 T; 70 1 to 4 T; 71A C; 72 `/DTYPE/PORD` | `/BAEREF/`, date, N | `/CENTRB/`."
abbrev pub transfer_rows : List Row
transfer_rows =
    row ":20:" reference
    ++ row ":23B:CRED" nothing
    ++ row ":32A:nnnnnnaaa" sum
    ++ (row ":50K:/" account ++ text_row ++ more_row ++ more_row)
    ++ (row ":52D:aaaannnn" nothing ++ text_row)
    ++ (row ":57D:aaaannnn" nothing ++ text_row)
    ++ (row ":59:/" account ++ text_row ++ more_row ++ more_row)
    ++ (row ":70:" text ++ more_row ++ more_row ++ more_row)
    ++ row ":71A:aaa" nothing
    ++ (row ":72:/DTYPE/PORD" nothing ++ row "/BAEREF/nnnnnn" name ++ row "/CENTRB/" nothing)

-- "MT101: 20 R; then one or more details"
abbrev pub order_rows : List Row
order_rows = row ":20:" reference

-- "21 R; 32B C, amount; 50H `/`, 22 letters or digits, `PAY`, six digits | 1 to 4 T; 52D BAE | T; 59 account line | 1 to 3 T; 70 `CENTRB`, date | `BAEREF`, date, N | 1 to 2 T."
abbrev pub detail_rows : List Row
detail_rows =
    row ":21:" reference
    ++ row ":32B:aaa" sum
    ++ (row ":50H:/ccccccccccccccccccccccPAYnnnnnn" nothing ++ text_row ++ more_row ++ more_row ++ more_row)
    ++ (row ":52D:aaaannnn" nothing ++ text_row)
    ++ (row ":59:/" account ++ text_row ++ more_row ++ more_row)
    ++ (row ":70:CENTRBnnnnnn" nothing ++ row "BAEREFnnnnnn" name ++ text_row ++ more_row)

-- ---- the rows that are read again have names: the form, then the field or the row's own word

-- 20, the first row of either message
abbrev pub message20 : ℕ
message20 = 0

-- of an MT103: 32A
abbrev pub transfer32a : ℕ
transfer32a = 2

-- 59's account line
abbrev pub transfer59 : ℕ
transfer59 = 11

-- 72's second row, `/BAEREF/`
abbrev pub transfer_baeref : ℕ
transfer_baeref = 21

-- of a detail of an MT101: 21
abbrev pub detail21 : ℕ
detail21 = 0

-- 32B
abbrev pub detail32b : ℕ
detail32b = 1

-- 50H's account
abbrev pub detail50h : ℕ
detail50h = 2

-- 50H's second line behind the account
abbrev pub detail_code : ℕ
detail_code = 4

-- 52D's BAE
abbrev pub detail52d : ℕ
detail52d = 7

-- 59's account line
abbrev pub detail59 : ℕ
detail59 = 9

-- 70's first row, `CENTRB`
abbrev pub detail_centrb : ℕ
detail_centrb = 13

-- 70's second row, `BAEREF`
abbrev pub detail_baeref : ℕ
detail_baeref = 14

-- the heads of some rows of a form
abbrev pub heads_of : List Row → List ℕ → List (List ℕ)
heads_of rs ks = map (λ k. get_or (map (λ r. r.head) rs) k []) ks

-- each name is the row of its head
pub named : heads_of transfer_rows (message20 ∷ transfer32a ∷ transfer59 ∷ transfer_baeref ∷ [])
    ++ heads_of order_rows (message20 ∷ [])
    ++ heads_of detail_rows (detail21 ∷ detail32b ∷ detail50h ∷ detail_code ∷ detail52d ∷ detail59 ∷ detail_centrb ∷ detail_baeref ∷ [])
    ≡ map ascii (
    ":20:" ∷ ":32A:nnnnnnaaa" ∷ ":59:/" ∷ "/BAEREF/nnnnnn"
    ∷ ":20:"
    ∷ ":21:" ∷ ":32B:aaa" ∷ ":50H:/ccccccccccccccccccccccPAYnnnnnn" ∷ "" ∷ ":52D:aaaannnn" ∷ ":59:/" ∷ ":70:CENTRBnnnnnn" ∷ "BAEREFnnnnnn" ∷ [])
named = refl

-- lines by rows, an empty one for a row that is left out, and the bytes behind them
pub record TakenRows : Type 0 where
  pub rows : List Line
  pub others : List ℕ

-- the lines ls before
unfoldable pub lead_rows : List Line → Option TakenRows → Option TakenRows
lead_rows ls none = none
lead_rows ls (some r) = some record { rows = ls ++ r.rows; others = r.others }

-- "Fields stand in this order, none left out.": the lines of a text matched against the rows
unfoldable pub take_rows : List Row → List ℕ → Option TakenRows
take_rows [] cs = some record { rows = []; others = cs }
take_rows (r ∷ rs) cs =
    then (take_line cs) (λ t.
    let with = lead_rows (t.line ∷ []) (take_rows rs t.others) in
    let without = lead_rows ([] ∷ []) (take_rows rs cs) in
    cond (fits_row r t.line) with (cond r.optional without none))
