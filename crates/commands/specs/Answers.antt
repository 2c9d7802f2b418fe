-- What the code's commands say in the paper's words.
use Rattle.std.specs.Prelude.{cond, List, ℕ, Option, Some, None, drop, take}
use Rattle.std.specs.Borrow.{Bor}
use Rattle.std.proofs.Math.Option as M
use Rattle.rules.specs.Text.{ascii, equal, then}
use Rattle.rules.specs.Replay as R
use Rattle.rules.specs.Replay.{opens, sends, turns, Commanded, six_digits, texts_behind, to_newer, to_older, opening}
use Rattle.commands.specs.declared.letter.Handed.{Handed}
use Rattle.commands.specs.declared.letter.Handed.TheVariants.{Message, Newer, Older}
use Rattle.commands.specs.declared.command.Command.{Command}
use Rattle.commands.specs.declared.command.Command.TheVariants.{Opens, Hands, Turns}

-- the command of one text
unfoldable pub making : Handed → List ℕ → R.Command
making Message = sends
making Newer = to_newer
making Older = to_older

-- a command
abbrev pub command_in : Command → R.Command
command_in (Opens day register holidays) = opens day register.now holidays.now
command_in (Hands kind text) = making kind text.now
command_in (Turns day) = turns day

-- the command and the input behind it
abbrev pub commanded_of : Option (Command × Bor (List ℕ)) → M.Option Commanded
commanded_of (Some (c, rest)) = M.some record { command = command_in c; others = rest.now }
commanded_of None = M.none

-- the command lines, by what stands on the line behind letter and comma, and behind the line
unfoldable pub turn_behind : List ℕ → List ℕ → M.Option Commanded
turn_behind day others = then (six_digits day) (λ d. M.some record { command = turns d; others = others })

unfoldable pub opening_behind : List ℕ → List ℕ → M.Option Commanded
opening_behind parts others = cond (equal (take 1 (drop 6 parts)) (ascii ",")) (then (six_digits (take 6 parts)) (λ d. texts_behind (opening d) 2 (drop 7 parts) others)) M.none
