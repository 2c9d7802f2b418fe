-- "the area begins as zeros", which hold no engine: over such an area the replay is document 01's.
use Rattle.std.specs.Prelude.{◌≡◌, refl, List, [], ℕ, length}
use Rattle.std.proofs.Common.{sym, ◌∙◌, arith}
use Rattle.std.proofs.Math.Option.{none}
use Rattle.rules.specs.Text.{number_from}
use Rattle.rules.specs.Lines.{lines}
use Rattle.rules.specs.Register.{register, of_lines, before_end}
use Rattle.rules.specs.Engine.{within}
use Rattle.rules.specs.Area.{holds, decode, zeros, text_place, text_at, records_of, area_size, joined}
use Rattle.rules.specs.Replay.{replay_from, replay_in}
use Rattle.day.specs.Whole.{InPieces, whole}

zeros_hold_none : holds (zeros area_size) ≡ none
unfolding holds zeros decode within register lines before_end of_lines number_from text_place text_at records_of
zeros_hold_none = refl

pub replays : (input area : List ℕ) (room : ℕ) → area ≡ zeros area_size → replay_from (length input) room (holds area) input ≡ replay_in room input
unfolding replay_in
replays input area room e = rw (e, zeros_hold_none) refl

-- and in pieces, from the first on
pub replays_pieces : (area : List ℕ) (room : ℕ) (ps : List (List ℕ)) (text : List ℕ) → area ≡ zeros area_size → InPieces room (holds area) [] ps text → replay_in room (joined ps) ≡ text
replays_pieces area room ps text e h = sym (replays (joined ps) area room e) ∙ whole room (holds area) [] ps text h (length (joined ps)) (omega arith)
