-- The moves, one law for each way out of a call.
use Rattle.std.specs.Prelude.{◌≡◌, refl, List, [], ℕ, ◌≤◌, pos, length}
use Rattle.std.proofs.Common.{sym, ne_eqb}
use Rattle.std.proofs.Math.Option.{none}
use Rattle.rules.specs.Calls.{Stop, first_of, answered}
use Rattle.rules.specs.Moves.{writing}
use Rattle.rules.specs.Area.{Result, on_areas}
use Rattle.laws.specs.Writing.{Wrote, wrote_over}
use Rattle.register_moves.specs.Texts.{WayOf}
use Rattle.card.specs.Answers.{Answers, answers_refused, answers_written}
use Rattle.card.specs.Measured.{wrote_exact}

-- a move by its conditions and its text: a call that changes no engine
abbrev pub moved_by : (ℕ → List ℕ → List Stop) → (List ℕ → List ℕ) → List ℕ → List ℕ → Result
moved_by stops made text out = on_areas (answered (stops (length out) text) none (writing none (made text))) [] out

module _ (stops : ℕ → List ℕ → List Stop) (made : List ℕ → List ℕ) (text out : List ℕ) (k : ℕ) (e : k ≡ first_of (stops (length out) text)) where
  pub move_stopped : (k ≡ 0 → ⊥) → Answers (moved_by stops made text out) k 0 (pos 0) [] out
  move_stopped n = answers_refused (stops (length out) text) none (writing none (made text)) [] out k (sym e) (ne_eqb k 0 n)

  pub move_done : {least : ℕ} → WayOf stops least made → k ≡ 0 → {r : ℕ} {out' : List ℕ} → Wrote (made text) 0 out r out' → Answers (moved_by stops made text out) 0 r (pos 0) [] out'
  move_done f n w = let l : length (made text) ≤ length out = f.fits (length out) text (rw (← e) n) in answers_written (stops (length out) text) none (writing none (made text)) [] out (rw (← e) n) refl refl (wrote_exact w l) (wrote_over w l)
