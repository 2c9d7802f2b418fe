-- Document 01, "Written": the replay program, from all its input to all its output.
use Rattle.std.specs.Prelude.{◌&&◌, cond, List, [], ◌∷◌, ◌++◌, ℕ, zero, suc, leb, eqb, ℤ, pos, negsuc, length, get_or, take, drop}
use Rattle.std.proofs.Math.Option.{Option, none, some}
use Rattle.rules.specs.Text.{ascii, digits, decimal, fits, equal, then, given, read_each, added_up}
use Rattle.rules.specs.Lines.{Line, take_line, parted}
use Rattle.rules.specs.Engine.{Engine, area_size}
use Rattle.rules.specs.Calls.{Answer, open_call, message_call, turn_call}
use Rattle.rules.specs.Services.{Service, newer, older, service_call}

-- a command: "`O,day,length` and a register, `M,length` and a message, `T,day`"; with CR 2 the holiday list follows the register, with CR 6 `N,length` and `P,length` are moves of a register
pub data Command : Type 0 where
  opens : ℕ → List ℕ → List ℕ → Command
  sends : List ℕ → Command
  turns : ℕ → Command
  serves : Service → Command

-- a command, and the input behind it
pub record Commanded : Type 0 where
  pub command : Command
  pub others : List ℕ

-- "days have six digits"
unfoldable pub six_digits : List ℕ → Option ℕ
six_digits cs = cond (fits (ascii "nnnnnn") cs) (digits cs) none

-- a length: one or more digits, and none "above 8,192"
unfoldable pub length_of : List ℕ → Option ℕ
length_of [] = none
length_of (c ∷ cs) = then (digits (c ∷ cs)) (λ n. given (leb n 8192) n)

-- n lengths, parted by commas
unfoldable pub parted_lengths : ℕ → Line → Option (List ℕ)
parted_lengths n l = then (read_each length_of (parted l)) (λ ns. given (eqb (length ns) n) ns)

-- texts of some lengths, one behind the other
unfoldable pub texts_in : List ℕ → List ℕ → List (List ℕ)
texts_in [] cs = []
texts_in (n ∷ ns) cs = take n cs ∷ texts_in ns (drop n cs)

-- behind a command line, all of which must be there
unfoldable pub with_texts : (List (List ℕ) → Command) → List ℕ → List ℕ → Option Commanded
with_texts f ns cs = let size = added_up ns in given (leb size (length cs)) record { command = f (texts_in ns cs); others = drop size cs }

-- n lengths on a line, and the texts behind it
unfoldable pub texts_behind : (List (List ℕ) → Command) → ℕ → Line → List ℕ → Option Commanded
texts_behind f n l cs = then (parted_lengths n l) (λ ns. with_texts f ns cs)

-- a command of one text
unfoldable pub single : (List ℕ → Command) → List (List ℕ) → Command
single f ts = f (get_or ts 0 [])

-- the moves of a register's text
unfoldable pub to_newer : List ℕ → Command
to_newer s = serves (newer s)

unfoldable pub to_older : List ℕ → Command
to_older s = serves (older s)

-- "Text that a request adds to opening adds a length and follows the register.": register and holiday list
unfoldable pub opening : ℕ → List (List ℕ) → Command
opening day ts = opens day (get_or ts 0 []) (get_or ts 1 [])

-- the command of a line, with what stands behind the line
unfoldable pub command_of : List ℕ → List ℕ → Option Commanded
command_of l cs =
    cond (equal (take 2 l) (ascii "M,")) (texts_behind (single sends) 1 (drop 2 l) cs)
    (cond (equal (take 2 l) (ascii "N,")) (texts_behind (single to_newer) 1 (drop 2 l) cs)
    (cond (equal (take 2 l) (ascii "P,")) (texts_behind (single to_older) 1 (drop 2 l) cs)
    (cond (equal (take 2 l) (ascii "T,")) (then (six_digits (drop 2 l)) (λ d. some record { command = turns d; others = cs }))
    (cond (equal (take 2 l) (ascii "O,") && equal (take 1 (drop 8 l)) (ascii ",")) (then (six_digits (take 6 (drop 2 l))) (λ d. texts_behind (opening d) 2 (drop 9 l) cs))
    none))))

-- "command lines end in CR LF"
unfoldable pub command : List ℕ → Option Commanded
command cs = then (take_line cs) (λ t. command_of t.line t.others)

-- "the difference", with its sign where it is below 0
unfoldable pub signed : ℤ → List ℕ
signed (pos n) = decimal n
signed (negsuc n) = ascii "-" ++ decimal (suc n)

-- "It prints the number and the difference, then the output"
unfoldable pub printed : Answer → List ℕ
printed a = decimal a.number ++ ascii "," ++ signed a.difference ++ ascii "\r\n" ++ a.text

-- the call that a command makes
unfoldable pub called : ℕ → Option Engine → Command → Answer
called room engine (opens day text list) = open_call area_size engine text list day
called room engine (sends s) = message_call room engine s
called room engine (turns day) = turn_call room engine day
called room engine (serves v) = service_call room engine v

-- what follows from a command, nothing where there is none
unfoldable pub onward : Option Commanded → (Commanded → List ℕ) → List ℕ
onward none f = []
onward (some c) f = f c

-- the commands one after the other, at most k; "input outside this form .. ends it"
unfoldable pub replay_from : ℕ → ℕ → Option Engine → List ℕ → List ℕ
replay_from zero room engine cs = []
replay_from (suc k) room engine cs =
    onward (command cs) (λ c. let a = called room engine c.command in printed a ++ replay_from k room a.next c.others)

-- with another room than 32,768; "the area begins as zeros", which hold no engine
unfoldable pub replay_in : ℕ → List ℕ → List ℕ
replay_in room cs = replay_from (length cs) room none cs

-- "Output has 32,768 bytes"
abbrev pub replay : List ℕ → List ℕ
replay cs = replay_in 32768 cs
