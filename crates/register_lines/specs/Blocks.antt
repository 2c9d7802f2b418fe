-- A line of fixed length stands at a place exactly where the bytes there fit its pattern and CR LF.
use Rattle.std.specs.Prelude.{◌≡◌, Bool, true, false, ◌&&◌, not, ℕ, ◌+◌, eqb, take, drop}
use Rattle.std.proofs.Math.Path.{refl, sym, ap}
use Rattle.std.proofs.Common.{◌∙◌, take-append-drop, take_at, eqb-true, ne_eqb}
use mathlib.Core.List.{List, [], ◌∷◌, ◌++◌}
use Rattle.std.proofs.Math.Option.{some, map}
use Rattle.std.proofs.Math.ListN.{length}
use Rattle.std.proofs.Math.Seq.{drop_at}
use Rattle.std.proofs.lemmas.Bool.{not-true}
use Rattle.rules.specs.Text.{ascii, every, fits, fits_sign}
use Rattle.rules.specs.Lines.{Line, before, lines}
use Rattle.laws.specs.Parts.{cut, from, from_take, from_drop}
use Rattle.laws.specs.Reading.{fits_length}
use Rattle.laws.specs.Tests.{and_left, and_right, cond_left, cond_right, never}
use Rattle.rule_laws.specs.Lines.{in_line, Lined, Lined.next, lines_lined, lines_before, lined_lines}

-- a sign that neither CR nor LF fits
unfoldable pub inside : ℕ → Bool
inside p = not (fits_sign p 13) && not (fits_sign p 10)

-- CR LF
abbrev pub crlf : List ℕ
crlf = ascii "\r\n"

-- what fits such a sign is neither
inside_byte : (p c : ℕ) → inside p ≡ true → fits_sign p c ≡ true → in_line c ≡ true
unfolding inside in_line
inside_byte p c i f = rw (other 13 (and_left _ _ i), other 10 (and_right (not (fits_sign p 13)) _ i))
  where
    other : (d : ℕ) → not (fits_sign p d) ≡ true → eqb c d ≡ false
    other d h = ne_eqb c d (λ e. never (sym (not-true _ h) ∙ (rw e at f)))

inside_line : (p cs : List ℕ) → every inside p ≡ true → fits p cs ≡ true → every in_line cs ≡ true
unfolding every fits
inside_line [] [] i f = refl
inside_line [] (c ∷ cs) i f = never f
inside_line (x ∷ p) [] i f = never f
inside_line (x ∷ p) (c ∷ cs) i f =
    rw (inside_byte x c (cond_left _ _ i) (cond_left _ _ f)) (inside_line p cs (cond_right (inside x) _ i) (cond_right (fits_sign x c) _ f))

-- only CR LF fits itself
pub crlf_is : (cs : List ℕ) → fits crlf cs ≡ true → cs ≡ crlf
unfolding fits fits_sign
crlf_is [] h = never h
crlf_is (c ∷ []) h = never (cond_right (eqb 13 c) _ h)
crlf_is (c ∷ d ∷ []) h = rw (← eqb-true 13 c (cond_left _ _ h), ← eqb-true 10 d (cond_left _ _ (cond_right (eqb 13 c) _ h)))
crlf_is (c ∷ d ∷ e ∷ cs) h = never (cond_right (eqb 10 d) _ (cond_right (eqb 13 c) _ h))

-- ---- at a place

-- what is left is its first n bytes, and what is left behind them
from_join : (s : List ℕ) (at n : ℕ) → from s at ≡ cut s at (at + n) ++ from s (at + n)
from_join s at n = rw (← from_take s at n, ← from_drop s at n) (sym (take-append-drop n (from s at)))

module _ (p s : List ℕ) (at : ℕ) (i : every inside p ≡ true) where
  pub line_at_lem : fits p (cut s at (at + length p)) ≡ true → fits crlf (cut s (at + length p) (at + length p + 2)) ≡ true
      → lines (from s at) ≡ map (before (cut s at (at + length p))) (lines (from s (at + length p + 2)))
  line_at_lem f g =
      let n = length p in
      let e : from s (at + n) ≡ 13 ∷ 10 ∷ from s (at + n + 2) = from_join s (at + n) 2 ∙ rw (crlf_is _ g) in
      ap lines (from_join s at n ∙ rw e) ∙ lines_before (cut s at (at + n)) (from s (at + n + 2)) (inside_line p _ i f)

  -- the first line from a place on fits: so it stands there, and the others behind it
  pub record LinesStand (l : Line) (ls : List Line) : Type 0 where
    pub same : l ≡ cut s at (at + length p)
    pub ended : fits crlf (cut s (at + length p) (at + length p + 2)) ≡ true
    pub others : lines (from s (at + length p + 2)) ≡ some ls

  pub stands : (l : Line) (ls : List Line) → lines (from s at) ≡ some (l ∷ ls) → fits p l ≡ true → LinesStand l ls
  unfolding fits fits_sign
  stands l ls h f = go (lines_lined (from s at) (l ∷ ls) h) refl
    where
      go : {t : List ℕ} → Lined t (l ∷ ls) → from s at ≡ t → LinesStand l ls
      go (next {cs = cs} q r) e =
          let n = length p in
          let k : length l ≡ n = sym (fits_length p l f) in
          let b : from s (at + n) ≡ 13 ∷ 10 ∷ cs = sym (from_drop s at n) ∙ ap (drop n) e ∙ drop_at l (13 ∷ 10 ∷ cs) n k in record {
            same = sym (take_at l (13 ∷ 10 ∷ cs) n k) ∙ ap (take n) (sym e) ∙ from_take s at n;
            ended = rw (← from_take s (at + n) 2, b);
            others = rw (← from_drop s (at + n) 2, b) (lined_lines r);
          }
