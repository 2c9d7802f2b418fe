-- The whole input by its pieces: commands carried out as they are read print what document 01's replay of all the pieces prints, wherever it is cut.
use Rattle.std.specs.Prelude.{◌≡◌, List, [], ◌∷◌, ◌++◌, ℕ, ◌+◌, ◌-◌, ◌≤◌, ◌<◌, length}
use Rattle.std.proofs.Common.{sym, ap, ◌∙◌, append_assoc, append-nil, arith, length-append}
use Rattle.std.proofs.Math.Option.{Option, none, some}
use Rattle.rules.specs.Engine.{Engine}
use Rattle.rules.specs.Area.{joined}
use Rattle.rules.specs.Replay.{Commanded, command, called, printed, replay_from}
use Rattle.commands.specs.Pieces.{command_more, command_behind}
use Rattle.day.specs.Runs.{run_ends, run_goes, run_alike}

-- with w read and not yet carried out, and the pieces ps still to be read, the text is printed
pub data InPieces (room : ℕ) : Option Engine → List ℕ → List (List ℕ) → List ℕ → Type 0 where
  -- a command that stands in what is read is carried out, and its answer printed
  performs : (engine : Option Engine) (w : List ℕ) (ps : List (List ℕ)) (text : List ℕ) (c : Commanded) → command w ≡ some c → InPieces room (called room engine c.command).next c.others ps text
      → InPieces room engine w ps (printed (called room engine c.command) ++ text)
  -- a piece is read behind it, or behind fewer bytes that begin with the same command whatever follows
  reads : (engine : Option Engine) (w v p : List ℕ) (ps : List (List ℕ)) (text : List ℕ) → ((more : List ℕ) → command (v ++ more) ≡ command (w ++ more)) → length v ≤ length w → InPieces room engine (v ++ p) ps text
      → InPieces room engine w (p ∷ ps) text
  -- the input has ended
  ends : (engine : Option Engine) (w : List ℕ) → command w ≡ none → InPieces room engine w [] []
  -- no command stands there, whatever follows
  stops : (engine : Option Engine) (w : List ℕ) (ps : List (List ℕ)) → ((more : List ℕ) → command (w ++ more) ≡ none) → InPieces room engine w ps []

pub whole : (room : ℕ) (engine : Option Engine) (w : List ℕ) (ps : List (List ℕ)) (text : List ℕ) → InPieces room engine w ps text → (k : ℕ) → length (w ++ joined ps) ≤ k → replay_from k room engine (w ++ joined ps) ≡ text
unfolding joined
whole room engine w ps text (performs _ _ _ t c e h) k l =
    let a : length (w ++ joined ps) ≡ length w + length (joined ps) = length-append w (joined ps) in
    let b : length (c.others ++ joined ps) ≡ length c.others + length (joined ps) = length-append c.others (joined ps) in
    let d : length c.others < length w = command_behind w c e in
    run_goes (w ++ joined ps) k room engine (omega arith) _ (command_more w (joined ps) c e)
    ∙ ap (λ (x : List ℕ). printed (called room engine c.command) ++ x) (whole room _ c.others ps t h (k - 1) (omega arith))
whole room engine w ps text (reads _ _ v p qs t f n h) k l =
    let a : length (w ++ (p ++ joined qs)) ≡ length w + length (p ++ joined qs) = length-append w (p ++ joined qs) in
    let b : length (v ++ (p ++ joined qs)) ≡ length v + length (p ++ joined qs) = length-append v (p ++ joined qs) in
    let d : v ++ p ++ joined qs ≡ v ++ (p ++ joined qs) = append_assoc v p (joined qs) in
    sym (run_alike (v ++ (p ++ joined qs)) k room engine (w ++ (p ++ joined qs)) (f (p ++ joined qs))) ∙ ap (replay_from k room engine) (sym d) ∙ whole room engine (v ++ p) qs t h k (rw d (omega arith))
whole room engine w ps text (ends _ _ e) k l = run_ends (w ++ []) k room engine (ap command (append-nil w) ∙ e)
whole room engine w ps text (stops _ _ _ f) k l = run_ends (w ++ joined ps) k room engine (f (joined ps))
