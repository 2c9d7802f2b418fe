-- What a writer lays over its output, and where it stands then: one text, or texts in two to five pieces, the first piece asked for first, so that a search finds them at once.
use Rattle.std.specs.Prelude.{◌≡◌, refl, cond, List, [], ◌++◌, ℕ, ◌-◌, ◌≤◌, ◌<◌, leb, length, take, drop}
use Rattle.std.proofs.Common.{◌∙◌, le-leb}
use Rattle.std.proofs.lemmas.Bool.{lt-leb}
use Rattle.laws.specs.Writing.{Wrote, Left, ahead, furthest, wrote_then, left_turn, left_none}
use Rattle.laws.specs.Pieces.{wrote_nothing, left_all}
use Rattle.laws.specs.Parts.{cut}
use Rattle.put.specs.Laying.{wrote_cut}
use Rattle.put.specs.declared.parts.Writer.{Writer}

-- a writer wrote a text, over the same output
pub record Writes (text : List ℕ) (old new : Writer) : Type 0 where
  pub same_reference : new.out.ghost_name ≡ old.out.ghost_name
  pub wrote : Wrote text old.at old.out.now new.at new.out.now

-- a writer passed over n bytes
pub record Passes (n : ℕ) (old new : Writer) : Type 0 where
  pub same_reference : new.out.ghost_name ≡ old.out.ghost_name
  pub output : new.out.now ≡ old.out.now
  pub cursor : new.at ≡ ahead old.at n

-- a part of a slice, by its ends
pub writes_cut : (s : List ℕ) (a b : ℕ) {w₀ w₁ : Writer} → Writes (take (b - a) (drop a s)) w₀ w₁ → Writes (cut s a b) w₀ w₁
writes_cut s a b u = record { same_reference = u.same_reference; wrote = wrote_cut s a b u.wrote }

module _ {a b : List ℕ} {w₀ w₁ w₂ : Writer} (u : Writes a w₀ w₁) (v : Writes b w₁ w₂) where
  pub writes_then : Writes (a ++ b) w₀ w₂
  writes_then = record { same_reference = v.same_reference ∙ u.same_reference; wrote = wrote_then u.wrote v.wrote }

  module _ {c : List ℕ} {w₃ : Writer} (x : Writes c w₂ w₃) where
    pub writes_3 : Writes (a ++ b ++ c) w₀ w₃
    writes_3 = record { same_reference = x.same_reference ∙ writes_then.same_reference; wrote = wrote_then writes_then.wrote x.wrote }

    module _ {d : List ℕ} {w₄ : Writer} (y : Writes d w₃ w₄) where
      pub writes_4 : Writes (a ++ b ++ c ++ d) w₀ w₄
      writes_4 = record { same_reference = y.same_reference ∙ writes_3.same_reference; wrote = wrote_then writes_3.wrote y.wrote }

      pub writes_5 : {e : List ℕ} {w₅ : Writer} → Writes e w₄ w₅ → Writes (a ++ b ++ c ++ d ++ e) w₀ w₅
      writes_5 z = record { same_reference = z.same_reference ∙ writes_4.same_reference; wrote = wrote_then writes_4.wrote z.wrote }

-- nothing is written
pub writes_nothing : {w : Writer} → length w.out.now ≤ furthest → Writes [] w w
writes_nothing h = record { same_reference = refl; wrote = wrote_nothing h }

-- the text that a comparison picks
module _ (x y : List ℕ) (i k : ℕ) {w₀ w₁ : Writer} where
  pub writes_within : i ≤ k → Writes x w₀ w₁ → Writes (cond (leb i k) x y) w₀ w₁
  writes_within h u = rw (le-leb i k h) u

  pub writes_beyond : k < i → Writes y w₀ w₁ → Writes (cond (leb i k) x y) w₀ w₁
  writes_beyond h u = rw (lt-leb i k h) u

-- ---- over an output that is lent to a writer

-- by a writer that stood at a place of it
pub wrote_at : {text out out' : List ℕ} {at : ℕ} {w₀ w₁ : Writer} → Writes text w₀ w₁ → w₀.out.now ≡ out → w₀.at ≡ at → out' ≡ w₁.out.now → Wrote text at out w₁.at out'
wrote_at u e f g = rw (← e, ← f, g) u.wrote

-- up to some place behind it
pub record WroteAt (text : List ℕ) (at : ℕ) (out out' : List ℕ) : Type 0 where
  pub behind : ℕ
  pub wrote : Wrote text at out behind out'

-- ---- a writing loop

-- of a whole text, to be written by the writer as it was at the start, the rest is left to write
pub record Unwritten (rest : List ℕ) (w : Writer) (whole : List ℕ) (start : Writer) : Type 0 where
  pub same_reference : w.out.ghost_name ≡ start.out.ghost_name
  pub left : Left rest w.at w.out.now whole start.at start.out.now

-- all is left to write
pub unwritten_all : (bs : List ℕ) {w : Writer} → length w.out.now ≤ furthest → Unwritten bs w bs w
unwritten_all bs h = record { same_reference = refl; left = left_all bs h }

module _ {whole : List ℕ} {start w : Writer} where
  pub unwritten_turn : {b rest : List ℕ} {w' : Writer} → Unwritten (b ++ rest) w whole start → Writes b w w' → Unwritten rest w' whole start
  unwritten_turn l u = record { same_reference = u.same_reference ∙ l.same_reference; left = left_turn l.left u.wrote }

  pub unwritten_none : Unwritten [] w whole start → Writes whole start w
  unwritten_none l = record { same_reference = l.same_reference; wrote = left_none l.left }
