-- The header of an area in its two halves: what changes from call to call, and what an opening leaves for good.
use Rattle.std.specs.Prelude.{◌≡◌, refl, List, ◌++◌, ℕ, length}
use Rattle.std.proofs.Common.{length-append}
use Rattle.rules.specs.Text.{bytes}
use Rattle.rules.specs.Engine.{Engine}
use Rattle.rules.specs.Area.{texts_of, lengths_of, mark, header}
use Rattle.laws.specs.Digits.{places_length}
use Rattle.put.specs.declared.parts.Writer.{Writer}
use Rattle.put.specs.Writes.{Writes, writes_5}

-- mark, day, outgoing count, how many positions, how many references
unfoldable pub numbers : ℕ → ℕ → ℕ → ℕ → List ℕ
numbers day count positions references = mark ++ bytes 3 day ++ bytes 2 count ++ bytes 1 positions ++ bytes 1 references

-- currency, and the lengths of some texts
unfoldable pub lengths : List (List ℕ) → List ℕ
lengths ts = bytes 1 0 ++ lengths_of ts

pub header_halves : (e : Engine) → header e ≡ numbers e.day e.count (length e.positions) (length e.references) ++ lengths (texts_of e)
unfolding header numbers lengths
header_halves e = refl

pub numbers_length : (day count positions references : ℕ) → length (numbers day count positions references) ≡ 9
unfolding numbers
numbers_length day count positions references = simp (length-append, places_length)

-- ---- written

pub numbers_wrote : (day count positions references : ℕ) {w₀ w₁ w₂ w₃ w₄ w₅ : Writer} → Writes mark w₀ w₁ → Writes (bytes 3 day) w₁ w₂ → Writes (bytes 2 count) w₂ w₃
    → Writes (bytes 1 positions) w₃ w₄ → Writes (bytes 1 references) w₄ w₅ → Writes (numbers day count positions references) w₀ w₅
unfolding numbers
numbers_wrote day count positions references u v w x y = writes_5 u v w x y
