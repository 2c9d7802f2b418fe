-- The table of rows as the code holds it, and that it is document 01's.
use Rattle.std.specs.Prelude.{◌≡◌, refl, Bool, true, false, not, List, [], ◌∷◌, ◌++◌, map, ℕ, zero, suc, ◌+◌, ◌-◌, ◌≤◌, ◌<◌, leb, eqb, length, get_or, take, drop}
use Rattle.std.proofs.Common.{arith, add-one, drop-cons, leb-true, eq-eqb, ne_eqb, ◌∙◌}
use Rattle.std.proofs.lemmas.Bool.{not-true}
use Rattle.rules.specs.Text.{ascii, is_text, every, run, fits_sign, fits}
use Rattle.rules.specs.Forms as F
use Rattle.rules.specs.Forms.{nothing, text, reference, account, name, sum, text_line, fits_rest, fits_row, transfer_rows, detail_rows}
use Rattle.laws.specs.Parts.{cut}
use Rattle.laws.specs.Reading.{fits_pairs, pairs_more, pairs_bad, pairs_end}
use Rattle.laws.specs.Tables.{below, below_at}
use Rattle.forms.specs.declared.table.Rest.{Rest}
use Rattle.forms.specs.declared.table.Rest.TheVariants.{Nothing, Text, Reference, Account, Name, Sum}
use Rattle.forms.specs.declared.table.Row.{Row}

-- the patterns of all rows, one behind the other
unfoldable pub heads : List ℕ
heads = ascii ":20::23B:CRED:32A:nnnnnnaaa:50K:/:52D:aaaannnn:57D:aaaannnn:59:/:71A:aaa:72:/DTYPE/PORD/BAEREF/nnnnnn/CENTRB/:21::32B:aaa:50H:/ccccccccccccccccccccccPAYnnnnnn:70:CENTRBnnnnnnBAEREFnnnnnn"

-- a row with a head, whose line is never left out
abbrev pub head_row : ℕ → ℕ → Rest → Row
head_row b n r = record { start = b; size = n; rest = r; optional = false }

-- a further T
abbrev pub text_row : Row
text_row = head_row 0 0 Text

-- a T that may be left out
abbrev pub more_row : Row
more_row = record { start = 0; size = 0; rest = Text; optional = true }

-- the row of no line
abbrev pub no_row : Row
no_row = head_row 0 0 Nothing

-- the rows of MT103, and of a detail of an MT101
unfoldable pub codes : List Row
codes =
    head_row 0 4 Reference
    ∷ head_row 4 9 Nothing
    ∷ head_row 13 14 Sum
    ∷ head_row 27 6 Account
    ∷ text_row
    ∷ more_row
    ∷ more_row
    ∷ head_row 33 13 Nothing
    ∷ text_row
    ∷ head_row 46 13 Nothing
    ∷ text_row
    ∷ head_row 59 5 Account
    ∷ text_row
    ∷ more_row
    ∷ more_row
    ∷ head_row 158 4 Text
    ∷ more_row
    ∷ more_row
    ∷ more_row
    ∷ head_row 64 8 Nothing
    ∷ head_row 72 15 Nothing
    ∷ head_row 87 14 Name
    ∷ head_row 101 8 Nothing
    ∷ head_row 109 4 Reference
    ∷ head_row 113 8 Sum
    ∷ head_row 121 37 Nothing
    ∷ text_row
    ∷ more_row
    ∷ more_row
    ∷ more_row
    ∷ head_row 33 13 Nothing
    ∷ text_row
    ∷ head_row 59 5 Account
    ∷ text_row
    ∷ more_row
    ∷ more_row
    ∷ head_row 158 16 Nothing
    ∷ head_row 174 12 Name
    ∷ text_row
    ∷ more_row
    ∷ []

-- what a row says
abbrev pub rest_of : Rest → F.Rest
rest_of Nothing = nothing
rest_of Text = text
rest_of Reference = reference
rest_of Account = account
rest_of Name = name
rest_of Sum = sum

unfoldable pub row_of : Row → F.Row
row_of r = record { head = cut heads r.start (r.start + r.size); rest = rest_of r.rest; optional = r.optional }

-- the rows of both forms
unfoldable pub table : List F.Row
table = transfer_rows ++ detail_rows

-- the code's table says what the paper's does
pub tied : map row_of codes ≡ table
unfolding codes heads cut row_of table
tied = refl

-- row k of the table, whose pattern lies within the heads
pub record RowAt (k : ℕ) (r : Row) : Type 0 where
  pub same : r ≡ get_or codes k no_row
  pub room : r.start + r.size ≤ 186

-- ---- each row's pattern lies within the heads

abbrev pub code_at : ℕ → Row
code_at k = get_or codes k no_row

abbrev roomy : ℕ → Bool
roomy k = leb ((code_at k).start + (code_at k).size) 186

all_roomy : below roomy 40 ≡ true
unfolding codes
all_roomy = refl

-- the row of a place
pub row_told : {k : ℕ} {r : Row} → k < 40 → r ≡ code_at k → RowAt k r
row_told {k} l e = record { same = e; room = rw e (leb-true _ _ (below_at roomy 40 all_roomy k l)) }

pub heads_length : length heads ≡ 186
unfolding heads
heads_length = refl

-- ---- no row takes an empty line

abbrev takes_none : ℕ → Bool
takes_none k = not (fits_row (row_of (code_at k)) [])

all_take_none : below takes_none 40 ≡ true
unfolding codes heads cut row_of fits_row fits fits_rest text_line run every is_text
all_take_none = refl

pub row_some : {k : ℕ} → k < 40 → fits_row (row_of (code_at k)) [] ≡ false
row_some {k} l = not-true _ (below_at takes_none 40 all_take_none k l)

-- ---- bytes matched against the heads, sign by sign

module _ (b : ℕ) (s : List ℕ) (a n k : ℕ) (x : Bool) (inv : fits (cut heads (b + k) (b + n)) (cut s (a + k) (a + n)) ≡ x) where
  module _ (h : k < n) (l : b + n ≤ 186) (m : a + n ≤ length s) (v : ℕ) (e : v ≡ get_or heads (b + k) 0) (q : Bool) (u : q ≡ fits_sign v (get_or s (a + k) 0)) where
    sign_holds : q ≡ fits_sign (get_or heads (b + k) 0) (get_or s (a + k) 0)
    sign_holds = rw (← e) u

    pub head_more : q ≡ true → fits (cut heads (b + (k + 1)) (b + n)) (cut s (a + (k + 1)) (a + n)) ≡ x
    head_more d = pairs_more fits fits_sign fits_pairs heads s b a n k x inv h (omega (arith, heads_length)) m q sign_holds d

    pub head_bad : q ≡ false → eqb k n ≡ x
    head_bad d = ne_eqb k n (λ z. omega (arith, z, h)) ∙ pairs_bad fits fits_sign fits_pairs heads s b a n k x inv h (omega (arith, heads_length)) m q sign_holds d

  pub head_end : k ≤ n → n ≤ k → eqb k n ≡ x
  head_end h l = eq-eqb k n (omega (arith, h, l)) ∙ pairs_end fits fits_sign fits_pairs heads s b a n k x inv h l

-- ---- some of its rows

-- count rows, from row first on
unfoldable pub part : ℕ → ℕ → List F.Row
part first count = take count (drop first table)

get_d_map : (rs : List Row) (k : ℕ) → get_or (map row_of rs) k (row_of no_row) ≡ row_of (get_or rs k no_row)
get_d_map [] k = refl
get_d_map (r ∷ rs) zero = refl
get_d_map (r ∷ rs) (suc k) = get_d_map rs k

table_length : length table ≡ 40
unfolding table
table_length = refl

pub part_none : (first : ℕ) → part first 0 ≡ []
unfolding part
part_none first = refl

-- the first row of some, as the code holds it, and the others
pub part_step : (first count : ℕ) (r : Row) → RowAt first r → 0 < count → first + count ≤ 40 → part first count ≡ row_of r ∷ part (first + 1) (count - 1)
unfolding part
part_step first zero r w h b = absurd (omega arith)
part_step first (suc count) r w h b =
    let e : suc count - 1 ≡ count = omega arith in
    rw (e, add-one first, drop-cons table first (row_of no_row) (omega (arith, table_length)), ← tied, get_d_map codes first, w.same)
