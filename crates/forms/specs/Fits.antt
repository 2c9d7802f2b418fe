-- A line matched against a row, one law for each way that the code goes.
use Rattle.std.specs.Prelude.{◌≡◌, Bool, true, ◌&&◌, List, get_or, take, drop}
use Rattle.std.proofs.Common.{sym, ◌∙◌}
use Rattle.std.proofs.Math.Bool.{false, and-true, and-false}
use Prim.Native.Nat.{ℕ, ◌+◌, ◌-◌, ◌≤◌}
use native.Mathlib.Omega.{arith}
use Rattle.std.proofs.Math.ListN.{length, length-take}
use borrow.Author.Tests.{eq-eqb, ne_eqb}
use Rattle.rules.specs.Text.{is_text, run, fits}
use Rattle.rules.specs.Forms.{text_line, fits_rest, fits_row}
use Rattle.laws.specs.Parts.{cut_length}
use Rattle.laws.specs.Slices.{part_cut, rest_whole}
use Rattle.laws.specs.Reading.{fits_length}
use Rattle.forms.specs.Table.{heads, heads_length, rest_of, row_of}
use Rattle.forms.specs.declared.table.Rest.{Rest}
use Rattle.forms.specs.declared.table.Row.{Row}

-- ---- T

module _ (s : List ℕ) where
  pub text_none : length s ≡ 0 → false ≡ text_line s
  unfolding text_line run
  text_none h = rw h

  pub text_colon : get_or s 0 0 ≡ 58 → false ≡ text_line s
  unfolding text_line
  text_colon c = rw (eq-eqb _ _ c, and-false)

  module _ (c : get_or s 0 0 ≡ 58 → ⊥) where
    pub text_dash : get_or s 0 0 ≡ 45 → false ≡ text_line s
    unfolding text_line
    text_dash d = rw (ne_eqb _ _ c, eq-eqb _ _ d, and-false)

    pub text_run : (get_or s 0 0 ≡ 45 → ⊥) → (r : Bool) → r ≡ run is_text 1 35 s → r ≡ text_line s
    unfolding text_line
    text_run d r u = rw (ne_eqb _ _ c, ne_eqb _ _ d, and-true, and-true) u

-- ---- what stands behind a head

-- the case that a match found
pub rest_told : (k l : Rest) (cs : List ℕ) (r : Bool) → k ≡ l → r ≡ fits_rest (rest_of l) cs → r ≡ fits_rest (rest_of k) cs
rest_told k l cs r e h = rw e h

-- ---- the row

module _ (row : Row) (s : List ℕ) (w : row.start + row.size ≤ 186) where
  size : length (row_of row).head ≡ row.size
  unfolding row_of
  size = cut_length heads row.start (row.start + row.size) (omega (arith, heads_length)) ∙ omega arith

  head_slice : take (row.start + row.size - row.start) (drop row.start heads) ≡ (row_of row).head
  unfolding row_of
  head_slice = part_cut heads row.start (row.start + row.size) (omega arith)

  -- the row's pattern, a part of the heads, and what stands behind it
  module _ (t : Bool) (u : t ≡ fits (take (row.start + row.size - row.start) (drop row.start heads)) (take (length (take (row.start + row.size - row.start) (drop row.start heads))) s)) where
    head_is : t ≡ fits (row_of row).head (take row.size s)
    head_is = rw (head_slice, size) at u

    split : fits_row (row_of row) s ≡ (t && fits_rest (rest_of row.rest) (drop row.size s))
    unfolding fits_row row_of
    split = rw (size, ← head_is)

    pub head_long : t ≡ true → row.size ≤ length s
    head_long d =
        let m : length (row_of row).head ≡ length (take row.size s) = fits_length _ _ (sym head_is ∙ d) in
        omega (arith, m, size, length-take row.size s)

    pub row_head : t ≡ false → false ≡ fits_row (row_of row) s
    row_head d = sym (split ∙ (rw d))

    pub row_rest : t ≡ true → (r : Bool) → r ≡ fits_rest (rest_of row.rest) (take (length s - row.size) (drop row.size s)) → r ≡ fits_row (row_of row) s
    row_rest d r q = rw (rest_whole s row.size) at q ∙ sym (split ∙ (rw d))

pub ruleset fitting = (text_none, text_colon, text_dash, text_run, rest_told, head_long, row_head, row_rest)
