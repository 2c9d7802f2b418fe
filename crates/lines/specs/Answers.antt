-- What the answers of the code say in the paper's words.
use Rattle.std.specs.Prelude.{◌≡◌, List, ℕ, ◌+◌, ◌≤◌, length, Option, Some, None, ◌<◌, get_or}
use Rattle.std.proofs.Common.{subst}
use Rattle.std.proofs.Math.Option.{none, some}
use Rattle.std.specs.Borrow.{Bor}
use Rattle.rules.specs.Lines.{TakenLine, take_line, lead}
use Rattle.laws.specs.Parts.{cut, from}
use Rattle.lines.specs.declared.over.Reader.{Reader}
use Rattle.lines.specs.declared.reader.LineReader.{LineReader}

-- the line from `at` to `e`, and what stands behind its CR LF
abbrev pub taken : List ℕ → ℕ → ℕ → TakenLine
taken s at e = record { line = cut s at e; others = from s (e + 2) }

-- the line that begins at `at` ends at `e`
pub record LineEnd (s : List ℕ) (at e : ℕ) : Type 0 where
  pub start : at ≤ e
  pub room : e + 2 ≤ length s
  pub same : take_line (from s at) ≡ some (taken s at e)

-- there is no line at `at`
pub record NoLine (s : List ℕ) (at : ℕ) : Type 0 where
  pub same : take_line (from s at) ≡ none

abbrev Told : List ℕ → ℕ → Option ℕ → Type 0
Told s at (Some e) = LineEnd s at e
Told s at None = NoLine s at

-- what is told of the line at `at`
pub record LineAt (s : List ℕ) (at : ℕ) (r : Option ℕ) : Type 0 where
  pub told : Told s at r

-- by the case that a match found
module _ (s : List ℕ) (at : ℕ) (r : Option ℕ) (h : LineAt s at r) where
  pub line_told : (e : ℕ) → r ≡ Some e → LineEnd s at e
  line_told e k = subst (Told s at) k h.told

  pub no_line_told : r ≡ None → NoLine s at
  no_line_told k = subst (Told s at) k h.told

-- of n bytes from `at` on, r stand before the first CR or LF: they begin the line, whatever goes on behind them
pub record Plain (s : List ℕ) (at n r : ℕ) : Type 0 where
  pub few : r ≤ n
  pub same : lead (cut s at (at + r)) (take_line (from s (at + r))) ≡ take_line (from s at)
  pub stop : r < n → (get_or s (at + r) 0 ≡ 13 → ⊥) → get_or s (at + r) 0 ≡ 10

-- where a reader stands behind the line that it handed out
abbrev behind : ℕ → Option ℕ → ℕ
behind at (Some e) = e + 2
behind at None = at

-- a reader hands out the line at its place, and is behind it then, over the same text
pub record HandsOut (old new : LineReader) (r : Option ℕ) : Type 0 where
  pub line : LineAt old.text.now old.at r
  pub text : new.text ≡ old.text
  pub at : new.at ≡ behind old.at r

-- the reader over a text of any length, at a place
abbrev pub over : Bor (List ℕ) → ℕ → Reader
over text at = record { text = text; at = at }
