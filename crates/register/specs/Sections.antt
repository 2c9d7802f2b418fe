-- Lines of one form, one behind the other: they stand in a text exactly where their tests hold at places of one distance.
use Rattle.std.specs.Prelude.{◌≡◌, refl, Bool, true, false, cond, length}
use Rattle.std.proofs.Common.{sym, ap, ◌∙◌, arith}
use mathlib.Core.List.{List, ◌∷◌, ◌++◌, map}
use Rattle.std.proofs.Math.Option
use Rattle.std.proofs.Math.Option.{Option, none, some}
use Prim.Native.Nat.{ℕ, zero, suc, ◌+◌, ◌*◌, ◌≤◌}
use Rattle.rules.specs.Text.{every, fits}
use Rattle.rules.specs.Lines.{Line, before, lines}
use Rattle.laws.specs.Parts.{cut, from}
use Rattle.laws.specs.Tests.{cond_left, cond_right, none_some}
use Rattle.rule_laws.specs.Options.{some_is, Gave, Reads, Reads.empty, Reads.more, Unread, Unread.end, Unread.stops}
use Rattle.register_lines.specs.Blocks.{inside, line_at_lem, LinesStand, stands}
use Rattle.register_lines.specs.Places.{places_from, end_next, end_none, leading_from, ends_at}

-- a form of lines: its pattern and its reader; the tests of a line at a place, and its value
pub record LineForm (A : Type 0) : Type 0 where
  pub pattern : List ℕ
  pub plain : every inside pattern ≡ true
  pub reader : Line → Option A
  pub standing : List ℕ → ℕ → Bool
  pub value : List ℕ → ℕ → A
  -- a line that is read has the pattern
  pub fit : (l : Line) (a : A) → reader l ≡ some a → fits pattern l ≡ true
  -- where one stands, it is read as its value and ended
  pub read : (s : List ℕ) (at : ℕ) → standing s at ≡ true → reader (cut s at (at + length pattern)) ≡ some (value s at)
  pub ended : (s : List ℕ) (at : ℕ) → standing s at ≡ true → ends_at s (at + length pattern) ≡ true
  -- and where one is read and ended, it stands
  pub back : (s : List ℕ) (at : ℕ) (a : A) → reader (cut s at (at + length pattern)) ≡ some a → ends_at s (at + length pattern) ≡ true → Gave (standing s at) (value s at) a

-- ---- as many as pass a test

-- each of them does
pub leading_all : (t : ℕ → Bool) (w at k : ℕ) → every t (places_from w at (leading_from t w at k)) ≡ true
unfolding leading_from places_from every
leading_all t w at zero = refl
leading_all t w at (suc k) = go (t at) refl (leading_all t w (at + w) k)
  where
    go : (b : Bool) → t at ≡ b → every t (places_from w (at + w) (leading_from t w (at + w) k)) ≡ true → every t (places_from w at (cond b (suc (leading_from t w (at + w) k)) 0)) ≡ true
    go true e h = rw e h
    go false e h = refl

pub leading_few : (t : ℕ → Bool) (w at k : ℕ) → leading_from t w at k ≤ k
unfolding leading_from
leading_few t w at zero = omega arith
leading_few t w at (suc k) = go (t at) (leading_few t w (at + w) k)
  where
    go : (b : Bool) → leading_from t w (at + w) k ≤ k → cond b (suc (leading_from t w (at + w) k)) 0 ≤ suc k
    go true h = omega arith
    go false h = omega arith

-- m that do, and then one that does not
pub leading_is : (t : ℕ → Bool) (w at k m : ℕ) → every t (places_from w at m) ≡ true → m ≤ k → t (at + w * m) ≡ false → leading_from t w at k ≡ m
unfolding leading_from places_from every
leading_is t w at zero zero g l h = refl
leading_is t w at zero (suc m) g l h = absurd (omega arith)
leading_is t w at (suc k) zero g l h = let e : t at ≡ false = rw (end_none w at) at h in rw e
leading_is t w at (suc k) (suc m) g l h = rw (cond_left (t at) _ g) (ap suc (leading_is t w (at + w) k m (cond_right (t at) _ g) (omega arith) (rw (end_next w at m) at h)))

-- m that do, and no more are asked for
pub leading_full : (t : ℕ → Bool) (w at m : ℕ) → every t (places_from w at m) ≡ true → leading_from t w at m ≡ m
unfolding leading_from places_from every
leading_full t w at zero g = refl
leading_full t w at (suc m) g = rw (cond_left (t at) _ g) (ap suc (leading_full t w (at + w) m (cond_right (t at) _ g)))

-- ---- the lines of a form

module _ {A : Type 0} (F : LineForm A) (s : List ℕ) where
  -- the line at a place
  abbrev pub line_at : ℕ → Line
  line_at at = cut s at (at + length F.pattern)

  -- how far the next one is
  abbrev pub distance : ℕ
  distance = length F.pattern + 2

  next : (at : ℕ) → at + length F.pattern + 2 ≡ at + distance
  next at = omega arith

  one_line : (at : ℕ) → F.standing s at ≡ true → lines (from s at) ≡ Option.map (before (line_at at)) (lines (from s (at + distance)))
  unfolding ends_at
  one_line at h = rw (← next at) (line_at_lem F.pattern s at F.plain (F.fit _ _ (F.read s at h)) (F.ended s at h))

  -- from the places to the lines
  pub lines_on : (at k : ℕ) (rest : List Line) → every (F.standing s) (places_from distance at k) ≡ true → lines (from s (at + distance * k)) ≡ some rest → lines (from s at) ≡ some (map line_at (places_from distance at k) ++ rest)
  unfolding places_from every
  lines_on at zero rest g h = rw (end_none distance at) at h
  lines_on at (suc k) rest g h =
      rw (one_line at (cond_left _ _ g), lines_on (at + distance) k rest (cond_right (F.standing s at) _ g) (rw (end_next distance at k) at h))

  pub reads_on : (at k : ℕ) → every (F.standing s) (places_from distance at k) ≡ true → Reads F.reader (map line_at (places_from distance at k)) (map (F.value s) (places_from distance at k))
  unfolding places_from every
  reads_on at zero g = empty
  reads_on at (suc k) g = more (F.read s at (cond_left _ _ g)) (reads_on (at + distance) k (cond_right (F.standing s at) _ g))

  -- and back: the values are those at the places, and the other lines stand behind them
  pub record Stand (at : ℕ) (xs : List A) (rest : List Line) : Type 0 where
    pub good : every (F.standing s) (places_from distance at (length xs)) ≡ true
    pub same : xs ≡ map (F.value s) (places_from distance at (length xs))
    pub others : lines (from s (at + distance * length xs)) ≡ some rest

  pub lines_back : (at : ℕ) {ls rest : List Line} {xs : List A} → Reads F.reader ls xs → lines (from s at) ≡ some (ls ++ rest) → Stand at xs rest
  unfolding places_from every ends_at
  lines_back at empty h = record { good = refl; same = refl; others = rw (end_none distance at) h }
  lines_back at (more {x = l} {y = a} {xs = ls} {ys = xs} e r) h =
      let it : LinesStand F.pattern s at F.plain l _ = stands F.pattern s at F.plain l _ h (F.fit l a e) in
      let g : Gave (F.standing s at) (F.value s at) a = F.back s at a (rw it.same at e) it.ended in
      let m : Stand (at + distance) xs _ = lines_back (at + distance) r (rw (next at) at it.others) in
      record {
        good = rw g.test m.good;
        same = rw g.is (ap (λ (more : List A). a ∷ more) m.same);
        others = rw (end_next distance at (length xs)) m.others;
      }

  -- none stands where the lines that are left begin with another
  pub none_stands : (at : ℕ) {ls : List Line} → lines (from s at) ≡ some ls → Unread F.reader ls → F.standing s at ≡ false
  none_stands at {ls} h u = go (F.standing s at) refl
    where
      other : {ls : List Line} → Unread F.reader ls → F.standing s at ≡ true → (o : Option (List Line)) → Option.map (before (line_at at)) o ≡ some ls → F.standing s at ≡ false
      other u e none k = none_some k
      other end e (some ms) k = let z : suc (length ms) ≡ 0 = ap length (some_is k) in absurd (omega arith)
      other (stops {x = l} f) e (some ms) k = let q : line_at at ≡ l = cc in none_some (sym f ∙ ap F.reader (sym q) ∙ F.read s at e)

      go : (t : Bool) → F.standing s at ≡ t → F.standing s at ≡ false
      go false e = e
      go true e = other u e (lines (from s (at + distance))) (sym (one_line at e) ∙ h)
