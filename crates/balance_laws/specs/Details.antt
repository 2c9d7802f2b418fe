-- The details of a message that is read: what an MT199 and a return repeat of them is short, since a row is a line of the message or is left out.
use Rattle.std.specs.Prelude.{◌≡◌, refl, Bool, true, false, List, [], ◌∷◌, ◌++◌, map, ℕ, ◌+◌, ◌≤◌, ◌<◌, leb, length, get_or, take, drop}
use Rattle.std.proofs.Common.{subst, ◌∙◌, append_assoc, arith, lit<, length-drop}
use Rattle.std.proofs.Math.Seq.{drop-nil}
use Rattle.rules.specs.Text.{ascii, every, run, fits}
use Rattle.rules.specs.Lines.{Line}
use Rattle.rules.specs.Forms.{Row, text, text_line, fits_rest, fits_row, detail_rows, detail50h, detail52d, detail59, detail_baeref}
use Rattle.rules.specs.Messages.{Message, Detail, line_of, row_text, rows_text, details_of}
use Rattle.laws.specs.Tests.{and_left, and_right, between_high}
use Rattle.laws.specs.All.{All, All.none, All.more}
use Rattle.rule_laws.specs.Lines.{in_line}
use Rattle.rule_laws.specs.Messages.{RowStands, RowStands.out, RowStands.here, RowsRead, RowsRead.end, RowsRead.row, none_row, row_at, rows_take, rows_drop, DetailRead, DetailsRead, DetailsRead.last, DetailsRead.more, ReadAs, ReadAs.transfer, ReadAs.order}
use Rattle.rule_laws.specs.Returns.{branch_length, payer_length, branch_lines_lem, payer_lines_lem}
use Rattle.laws.specs.Every.{every_drop}
use Rattle.balance_laws.specs.Told.{Short, short_join, short_text, short_part, Mute, mute_none, mute_line, mute_join}
use Rattle.balance_laws.specs.Mute.{DetailSent}

-- ---- a detail

stands_plain : {r : Row} {l : Line} → RowStands r l → every in_line l ≡ true
unfolding every
stands_plain (out o) = refl
stands_plain (here h p) = p

-- what stands behind a head
short_rest : (n : ℕ) {r : Row} {l : Line} → ((cs : List ℕ) → fits_rest r.rest cs ≡ true → length cs ≤ n) → RowStands r l → Short n (drop (length r.head) l)
unfolding fits_row
short_rest n {r} {l} f s = record { plain = every_drop in_line (length r.head) l (stands_plain s); size = few s }
  where
    few : {m : Line} → RowStands r m → length (drop (length r.head) m) ≤ n
    few (out o) = rw (drop-nil (length r.head)) (omega arith)
    few (here {l = m} h p) = f (drop (length r.head) m) (and_right (fits r.head (take (length r.head) m)) _ h)

-- behind k bytes of a row
short_past : (k n : ℕ) {r : Row} {l : Line} → RowStands r l → length l ≡ k + n → Short n (drop k l)
short_past k n {l = l} s e = record { plain = every_drop in_line k l (stands_plain s); size = rw length-drop (omega arith) }

-- rows of T, by whether each may be left out
text_rows : List Bool → List Row
text_rows os = map (λ o. record { head = []; rest = text; optional = o }) os

-- "1 to 35 bytes"
short_texts : (os : List Bool) {ls : List Line} → RowsRead (text_rows os) ls → All (Short 35) ls
unfolding text_rows fits_rest text_line run
short_texts [] end = none
short_texts (o ∷ os) (row s t) = more (short_rest 35 (λ cs k. between_high 1 35 (length cs) (and_left _ _ (and_left _ _ (and_left _ _ k)))) s) (short_texts os t)

mute_rows : {ls : List Line} → All (Short 35) ls → Mute (rows_text ls)
unfolding rows_text row_text
mute_rows none = mute_none
mute_rows (more {x = []} s t) = mute_rows t
mute_rows (more {x = c ∷ cs} s t) = mute_join (mute_line s refl) (mute_rows t)

-- a line behind a tag, and the rows that follow
mute_tagged : {m n : ℕ} {tag cs text : List ℕ} {ls : List Line} → Short m tag → Short n cs → leb (m + n) 41 ≡ true → All (Short 35) ls → text ≡ cs ++ 13 ∷ 10 ∷ rows_text ls → Mute (tag ++ text)
mute_tagged {tag = tag} {cs} {ls = ls} s t h u e =
    rw e (subst Mute (append_assoc (tag ++ cs) (ascii "\r\n") (rows_text ls) ∙ append_assoc tag cs (13 ∷ 10 ∷ rows_text ls)) (mute_join (mute_line (short_join s t) h) (mute_rows u)))

detail_sent : {d : Detail} → DetailRead d → DetailSent d
unfolding fits_rest run text_rows every in_line
detail_sent {d} r = record {
  code = short_part 8 5 (line_of d.rows detail52d) (stands_plain (stands detail52d (lit< tt)));
  dated = short_part 6 6 (line_of d.rows detail_baeref) (stands_plain (stands detail_baeref (lit< tt)));
  named = short_rest 12 (λ cs k. between_high 1 12 (length cs) (and_left _ _ k)) (stands detail_baeref (lit< tt));
  account = short_rest 34 (λ cs k. between_high 1 34 (length cs) (and_left _ _ k)) (stands detail59 (lit< tt));
  lines57d = mute_tagged (short_text (ascii ":57D:") refl) (short_past 5 8 (stands detail52d (lit< tt)) (branch_length r)) refl (short_texts (false ∷ []) (rows_take 1 (rows_drop 8 r.rows))) (branch_lines_lem r);
  lines59 = mute_tagged (short_text (ascii ":59:") refl) (short_past 5 32 (stands detail50h (lit< tt)) (payer_length r)) refl (short_texts (false ∷ true ∷ true ∷ []) (rows_take 3 (rows_drop 3 r.rows))) (payer_lines_lem r);
}
  where
    stands : (i : ℕ) → i < length detail_rows → RowStands (get_or detail_rows i none_row) (line_of d.rows i)
    stands = row_at none_row r.rows

details_sent : {ds : List Detail} → DetailsRead ds → All DetailSent ds
details_sent (last d) = more (detail_sent d) none
details_sent (more d r) = more (detail_sent d) (details_sent r)

-- the details of a message
pub read_sent : {s : List ℕ} {m : Message} → ReadAs s m → All DetailSent (details_of m)
unfolding details_of
read_sent (transfer t) = none
read_sent (order o) = details_sent o.details
