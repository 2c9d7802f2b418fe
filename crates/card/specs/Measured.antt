-- Texts that are measured before they are written: a text that fits ends at its length.
use Rattle.std.specs.Prelude.{◌≡◌, List, ℕ, ◌≤◌, ◌<◌, length}
use Rattle.std.proofs.Common.{arith}
use Rattle.laws.specs.Writing.{Wrote, ahead, furthest}
use Rattle.put.specs.declared.parts.Writer.{Writer}
use Rattle.put.specs.Writes.{Writes}

pub wrote_exact : {text out out' : List ℕ} {r : ℕ} → Wrote text 0 out r out' → length text ≤ length out → r ≡ length text
unfolding ahead
wrote_exact w l = omega (arith, w.cursor, w.short)

-- r measures a text: its length, as far as places go
pub record Measured (text : List ℕ) (r : ℕ) : Type 0 where
  pub size : r ≡ ahead 0 (length text)

pub measured : {text : List ℕ} {w₀ w₁ : Writer} → Writes text w₀ w₁ → w₀.at ≡ 0 → Measured text w₁.at
measured u f = record { size = rw f at u.wrote.cursor }

module _ {text : List ℕ} {r : ℕ} (w : Measured text r) (m : ℕ) where
  pub size_long : m < r → m < length text
  unfolding ahead
  size_long h = omega (arith, w.size)

  pub size_fits : r ≤ m → m < furthest → length text ≤ m
  unfolding ahead
  size_fits h l = omega (arith, w.size)
