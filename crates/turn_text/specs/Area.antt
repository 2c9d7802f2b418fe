-- The text of a turn of an area that holds an engine.
use Rattle.std.specs.Prelude.{◌≡◌, List, ℕ}
use Rattle.rules.specs.Written.{correction_postings, corrected_count}
use Rattle.rules.specs.Calls.{turn_text}
use Rattle.rules.specs.Area.{decode}
use Rattle.put.specs.declared.parts.Writer.{Writer}
use Rattle.put.specs.Writes.{Writes, writes_then}
use Rattle.turn_text.specs.Turn.{temporary_at, CorrectionsPut}

-- the text of a turn was written, and the count is that of its corrections
pub record TurnPut (area : List ℕ) (day : ℕ) (old : Writer) (count : ℕ) (new : Writer) : Type 0 where
  pub writes : Writes (turn_text (decode area) day) old new
  pub counted : count ≡ corrected_count (decode area).positions

-- "Posting lines come first, .. then messages."
pub turn_wrote : {area : List ℕ} {day count : ℕ} {w₀ w₁ w₂ : Writer} → Writes (correction_postings day (temporary_at area) (decode area).positions) w₀ w₁ → CorrectionsPut day area w₁ count w₂ → TurnPut area day w₀ count w₂
unfolding turn_text
turn_wrote u v = record { writes = writes_then u v.writes; counted = v.counted }
