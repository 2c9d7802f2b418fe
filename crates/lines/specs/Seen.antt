-- A text seen line by line: what holds before the first line, between two lines and behind the last.
use Rattle.std.specs.Prelude.{◌≡◌, refl, Bool, true, false, List, ℕ, ◌+◌, ◌≤◌, ◌<◌, length, Option, Some, None}
use Rattle.std.proofs.Common.{sym, ap, ◌∙◌, arith, subst, Bor}
use Rattle.rules.specs.Lines.{lines, in_lines, is_closing_line}
use Rattle.laws.specs.Parts.{from, from_all}
use Rattle.lines.specs.Answers.{LineAt, LineEnd, NoLine, HandsOut, line_told, no_line_told}
use Rattle.lines.specs.declared.reader.LineReader.{LineReader}
use Rattle.std.specs.Option.{is_some}
use Rattle.lines.specs.Laws.{closes_never, closes_now, closes_bad, closes_on, closing_later, closing_long, closing_rest}

-- all before `at` is in lines, the last of them from `last` on: what is left closes as the whole does, or nothing is left, and the last one closes it or not
pub record Seeing (s : List ℕ) (last at : ℕ) : Type 0 where
  pub begun : last ≤ at
  pub place : at ≤ length s
  pub going : at < length s → in_lines (lines (from s at)) ≡ in_lines (lines s)
  pub done : length s ≤ at → is_closing_line (from s last) ≡ in_lines (lines s)

-- before the first line
pub none_seen : (s : List ℕ) → Seeing s 0 0
none_seen s = record {
  begun = omega arith;
  place = omega arith;
  going = λ h. rw from_all;
  done = λ h. sym (closing_long s 0 (λ e. omega (arith, e))) ∙ closes_never s 0 _ (rw from_all) h;
}

module _ (s : List ℕ) (last at : ℕ) (t : Seeing s last at) (h : at < length s) where
  -- where there is no line
  pub not_lined : NoLine s at → false ≡ in_lines (lines s)
  not_lined n = closes_bad s at _ (t.going h) _ refl n

  -- behind a line
  pub line_seen : (e : ℕ) → LineEnd s at e → Seeing s at (e + 2)
  line_seen e l = record {
    begun = let m = l.start in omega arith;
    place = l.room;
    going = λ k. closes_on s at _ (t.going h) _ refl (closing_later s at e l k) e l;
    done = λ k. last_seen _ refl k;
  }
    where
      last_seen : (b : Bool) → b ≡ is_closing_line (from s at) → length s ≤ e + 2 → is_closing_line (from s at) ≡ in_lines (lines s)
      last_seen true u k = sym u ∙ closes_now s at _ (t.going h) true u refl
      last_seen false u k = sym u ∙ closes_never s (e + 2) _ (closes_on s at _ (t.going h) false u refl e l) k

-- and the reader stands there, over the whole text
pub record Sees (s : List ℕ) (last : ℕ) (r : LineReader) : Type 0 where
  pub seeing : Seeing s last r.at
  pub text : r.text.now ≡ s

-- as a reader over the text hands it out
module _ (s : List ℕ) (last : ℕ) (old new : LineReader) (t : Seeing s last old.at) (o : old.text.now ≡ s) (h : old.at < length s) where
  line_at : (r : Option ℕ) → HandsOut old new r → LineAt s old.at r
  line_at r w = subst (λ (x : List ℕ). LineAt x old.at r) o w.line

  pub none_handed : (r : Option ℕ) → HandsOut old new r → is_some r ≡ false → false ≡ in_lines (lines s)
  none_handed None w k = not_lined s last old.at t h (no_line_told s old.at None (line_at None w) refl)
  none_handed (Some e) w k = cc

  pub line_handed : (r : Option ℕ) → HandsOut old new r → is_some r ≡ true → Sees s old.at new
  line_handed None w k = cc
  line_handed (Some e) w k = record {
    seeing = rw w.at (line_seen s last old.at t h e (line_told s old.at (Some e) (line_at (Some e) w) e refl));
    text = ap (λ (b : Bor (List ℕ)). b.now) w.text ∙ o;
  }

pub ruleset seeing = (none_seen, none_handed, line_handed, closing_rest)
