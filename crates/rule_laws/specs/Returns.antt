-- What a return repeats of a detail that is read: the lines of 52D and of 50H, behind their tags.
use Rattle.std.specs.Prelude.{◌≡◌, refl, false, List, [], ◌∷◌, ◌++◌, ℕ, zero, suc, ◌<◌, length, take, drop}
use Rattle.std.proofs.Common.{sym, ◌∙◌, append_assoc, arith, lit<, length-take, length-drop, eqb-true}
use Rattle.std.proofs.lemmas.List.{drop-append-le, take-append-le}
use Rattle.rules.specs.Text.{fits}
use Rattle.rules.specs.Lines.{Line}
use Rattle.rules.specs.Forms.{Row, nothing, fits_rest, fits_row, detail50h, detail52d}
use Rattle.rules.specs.Messages.{Detail, line_of, past, row_text, rows_text, payer_lines, branch, branch_lines}
use Rattle.laws.specs.Reading.{fits_length}
use Rattle.laws.specs.Tests.{never, and_left, and_right}
use Rattle.rule_laws.specs.Messages.{RowStands, RowStands.out, RowStands.here, none_row, row_at, DetailRead}

-- a row with nothing behind its head, which may not be left out
fixed_length : {r : Row} {l : Line} → r.optional ≡ false → r.rest ≡ nothing → RowStands r l → length l ≡ length r.head
unfolding fits_row fits_rest
fixed_length m n (out o) = never (sym m ∙ o)
fixed_length {r} m n (here {l} h p) =
    let head : length r.head ≡ length (take (length r.head) l) = fits_length r.head _ (and_left _ _ h) in
    let rest : length (drop (length r.head) l) ≡ 0 = eqb-true _ 0 (rw n at (and_right (fits r.head (take (length r.head) l)) _ h)) in
    omega (arith, rw length-take at head, rw length-drop at rest)

-- 1 + k rows from row i on, behind m bytes of its line
rows_from : (m k i : ℕ) (ls : List Line) → m < length (line_of ls i) → drop m (rows_text (take (suc k) (drop i ls))) ≡ drop m (line_of ls i) ++ 13 ∷ 10 ∷ rows_text (take k (drop (suc i) ls))
unfolding rows_text row_text
rows_from m k i [] h = absurd (omega arith)
rows_from m k zero ([] ∷ ls) h = absurd (omega arith)
rows_from m k zero ((c ∷ cs) ∷ ls) h = rw (append_assoc (c ∷ cs) (13 ∷ 10 ∷ []) (rows_text (take k ls))) (drop-append-le m (c ∷ cs) (13 ∷ 10 ∷ rows_text (take k ls)) (omega arith))
rows_from m k (suc i) (l ∷ ls) h = rows_from m k i ls h

-- ---- a detail

pub branch_length : {d : Detail} → DetailRead d → length (line_of d.rows detail52d) ≡ 13
branch_length r = fixed_length refl refl (row_at none_row r.rows detail52d (lit< tt))

pub payer_length : {d : Detail} → DetailRead d → length (line_of d.rows detail50h) ≡ 37
payer_length r = fixed_length refl refl (row_at none_row r.rows detail50h (lit< tt))

-- the first line of 52D and the one behind it
pub branch_lines_lem : {d : Detail} → DetailRead d → branch_lines d ≡ past ":52D:" (line_of d.rows detail52d) ++ 13 ∷ 10 ∷ rows_text (take 1 (drop 8 d.rows))
branch_lines_lem {d} r = rows_from 5 1 detail52d d.rows (omega (arith, branch_length r))

-- the account line of 50H and three behind it
pub payer_lines_lem : {d : Detail} → DetailRead d → payer_lines d ≡ past ":50H:" (line_of d.rows detail50h) ++ 13 ∷ 10 ∷ rows_text (take 3 (drop 3 d.rows))
payer_lines_lem {d} r = rows_from 5 3 detail50h d.rows (omega (arith, payer_length r))

-- its BAE begins the lines of 52D
pub branch_begins : {d : Detail} → DetailRead d → take 8 (branch_lines d) ≡ branch d
branch_begins {d} r = rw (branch_lines_lem r) (take-append-le 8 (past ":52D:" (line_of d.rows detail52d)) (13 ∷ 10 ∷ rows_text (take 1 (drop 8 d.rows))) (omega (arith, length-drop 5 (line_of d.rows detail52d), branch_length r)))
