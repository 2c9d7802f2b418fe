-- A text written in three to five pieces, one call behind the other, the first piece asked for first, so that a search finds them at once.
use Rattle.std.specs.Prelude.{◌≡◌, refl, cond, List, [], ◌++◌, ℕ, ◌≤◌, ◌<◌, leb, length}
use Rattle.std.proofs.Common.{sym, ap, ◌∙◌, append-nil, le-leb}
use Rattle.std.proofs.lemmas.Bool.{lt-leb}
use Rattle.laws.specs.Laid.{laid, laid_front}
use Rattle.laws.specs.Writing.{Wrote, Left, furthest, ahead_none, laid_none, wrote_then}

module _ {a b c out₀ out₁ out₂ out₃ : List ℕ} {at m₁ m₂ m₃ : ℕ} (u : Wrote a at out₀ m₁ out₁) (v : Wrote b m₁ out₁ m₂ out₂) (w : Wrote c m₂ out₂ m₃ out₃) where
  pub wrote_3 : Wrote (a ++ b ++ c) at out₀ m₃ out₃
  wrote_3 = wrote_then (wrote_then u v) w

  module _ {d out₄ : List ℕ} {m₄ : ℕ} (x : Wrote d m₃ out₃ m₄ out₄) where
    pub wrote_4 : Wrote (a ++ b ++ c ++ d) at out₀ m₄ out₄
    wrote_4 = wrote_then wrote_3 x

    pub wrote_5 : {e out₅ : List ℕ} {m₅ : ℕ} → Wrote e m₄ out₄ m₅ out₅ → Wrote (a ++ b ++ c ++ d ++ e) at out₀ m₅ out₅
    wrote_5 y = wrote_then wrote_4 y

-- nothing is written
pub wrote_nothing : {out : List ℕ} {at : ℕ} → length out ≤ furthest → Wrote [] at out at out
wrote_nothing {out} {at} h = record { cursor = ahead_none at; output = laid_none at out; short = h }

-- the text that a comparison picks
module _ (x y : List ℕ) (i k : ℕ) {out out' : List ℕ} {at r : ℕ} where
  pub wrote_within : i ≤ k → Wrote x at out r out' → Wrote (cond (leb i k) x y) at out r out'
  wrote_within h w = rw (le-leb i k h) w

  pub wrote_beyond : k < i → Wrote y at out r out' → Wrote (cond (leb i k) x y) at out r out'
  wrote_beyond h w = rw (lt-leb i k h) w

-- a text as long as the output
pub wrote_all : {bs out out' : List ℕ} {r : ℕ} → Wrote bs 0 out r out' → length bs ≡ length out → out' ≡ bs
wrote_all {bs} {out} w e = w.output ∙ ap (laid bs 0) (sym (append-nil out)) ∙ laid_front bs out [] e ∙ append-nil bs

-- all is left to write
pub left_all : (bs : List ℕ) {at : ℕ} {out : List ℕ} → length out ≤ furthest → Left bs at out bs at out
left_all bs h = record { cursor = refl; output = refl; short = h }
