-- Document 02, CR 6: "a move from the old register text, document 01's without code lines, to the new and back". A move changes no engine.
use Rattle.std.specs.Prelude.{Bool, not, List, [], ◌∷◌, ◌++◌, ℕ, ◌-◌, leb, pos, length, take}
use Rattle.std.proofs.Math.Option.{Option}
use Rattle.rules.specs.Text.{ascii, is_some, ended}
use Rattle.rules.specs.Register.{Register, register, register_of, old_register}
use Rattle.rules.specs.Engine.{Engine}
use Rattle.rules.specs.Calls.{Stop, stop, Answer, answered}

-- "a last line `END`"
abbrev pub end_line : List ℕ
end_line = ended (ascii "END")

-- "Old to new adds nothing but a last line `END`"
unfoldable pub with_end : List ℕ → List ℕ
with_end cs = cs ++ end_line

-- "New to old drops it"
unfoldable pub without_end : List ℕ → List ℕ
without_end cs = take (length cs - length end_line) cs

-- 19: "code lines stand in the way of the older form"
unfoldable pub has_codes : Register → Bool
has_codes r = leb 1 (length r.codes)

-- 9, 16
unfoldable pub newer_stops : ℕ → List ℕ → List Stop
newer_stops room text =
    stop 9 (not (is_some (old_register text)))
    ∷ stop 16 (not (leb (length (with_end text)) room))
    ∷ []

-- "19 .. tested once the register has passed 9, before 16"
unfoldable pub older_stops : ℕ → List ℕ → List Stop
older_stops room text =
    stop 9 (not (is_some (register text)))
    ∷ stop 19 (has_codes (register_of text))
    ∷ stop 16 (not (leb (length (without_end text)) room))
    ∷ []

-- accepted, a call that changes no engine: its text, and the engine as it is
abbrev pub writing : Option Engine → List ℕ → Answer
writing engine text = record { number = 0; text = text; difference = pos 0; next = engine }

-- old to new
unfoldable pub newer_call : ℕ → Option Engine → List ℕ → Answer
newer_call room engine text = answered (newer_stops room text) engine (writing engine (with_end text))

-- new to old
unfoldable pub older_call : ℕ → Option Engine → List ℕ → Answer
older_call room engine text = answered (older_stops room text) engine (writing engine (without_end text))
