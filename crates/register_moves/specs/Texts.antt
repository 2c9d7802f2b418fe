-- The texts that moves write.
use Rattle.std.specs.Prelude.{◌≡◌, List, ℕ, ◌-◌, ◌≤◌, length, take}
use Rattle.std.proofs.Common.{arith}
use Rattle.rules.specs.Calls.{Stop, first_of}
use Rattle.rules.specs.Moves.{end_line, with_end, without_end, newer_stops, older_stops}
use Rattle.rule_laws.specs.Moves.{newer_clear, OlderClear, older_clear}
use Rattle.rule_laws.specs.Registers.{register_size}
use Rattle.put.specs.declared.parts.Writer.{Writer}
use Rattle.put.specs.Writes.{Writes, writes_then}

-- where no condition stops a move, its text has so many bytes at least, and what is made of it fits the room
pub record WayOf (stops : ℕ → List ℕ → List Stop) (least : ℕ) (made : List ℕ → List ℕ) : Type 0 where
  pub long : (room : ℕ) (text : List ℕ) → first_of (stops room text) ≡ 0 → least ≤ length text
  pub fits : (room : ℕ) (text : List ℕ) → first_of (stops room text) ≡ 0 → length (made text) ≤ room

pub newer_way_of : WayOf newer_stops 0 with_end
newer_way_of = record { long = λ room text h. omega arith; fits = λ room text h. (newer_clear room text h).fits }

pub older_way_of : WayOf older_stops 5 without_end
older_way_of = record {
  long = λ room text h. let c : OlderClear room text = older_clear room text h in omega (arith, register_size text c.accounts c.reads);
  fits = λ room text h. (older_clear room text h).fits;
}

pub newer_wrote : (text : List ℕ) {w₀ w₁ w₂ : Writer} → Writes text w₀ w₁ → Writes end_line w₁ w₂ → Writes (with_end text) w₀ w₂
unfolding with_end
newer_wrote text u v = writes_then u v

pub older_wrote : (text : List ℕ) {w₀ w₁ : Writer} → Writes (take (length text - 5) text) w₀ w₁ → Writes (without_end text) w₀ w₁
unfolding without_end
older_wrote text u = u

pub ruleset writing = (newer_wrote, older_wrote)
