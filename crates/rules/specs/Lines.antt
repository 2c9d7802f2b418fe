-- Document 01, "Messages read": lines, and the frame of a message.
use Rattle.std.specs.Prelude.{Bool, false, ◌&&◌, cond, List, [], ◌∷◌, ◌++◌, ℕ, leb, eqb, length, take, drop}
use Rattle.std.proofs.Math.Option.{Option, none, some, map}
use Rattle.rules.specs.Text.{ascii, equal, fits}

-- a line, without its CR LF
abbrev pub Line : Type 0
Line = List ℕ

-- a line taken off a text, and what stands behind its CR LF
pub record TakenLine : Type 0 where
  pub line : Line
  pub others : List ℕ

-- the bytes p before the line
unfoldable pub lead : List ℕ → Option TakenLine → Option TakenLine
lead p none = none
lead p (some t) = some record { line = p ++ t.line; others = t.others }

-- "A line reader made over the message hands out one line after another.": lines are "ended by CR LF", and "CR and LF stand nowhere else"
unfoldable pub take_line : List ℕ → Option TakenLine
take_line [] = none
take_line (c ∷ []) = none
take_line (c ∷ d ∷ cs) =
    let on = lead (c ∷ []) (take_line (d ∷ cs)) in
    cond (eqb c 13) (cond (eqb d 10) (some record { line = []; others = cs }) none) (cond (eqb c 10) none on)

-- a byte before the first of some lines, or of some parts of a line
abbrev pub begun : ℕ → List Line → List Line
begun c [] = (c ∷ []) ∷ []
begun c (l ∷ ls) = (c ∷ l) ∷ ls

-- a line before others
abbrev pub before : Line → List Line → List Line
before l ls = l ∷ ls

-- all lines of a text
unfoldable pub lines : List ℕ → Option (List Line)
lines [] = some []
lines (c ∷ []) = none
lines (c ∷ d ∷ cs) =
    let ended = map (before []) (lines cs) in
    let on = map (begun c) (lines (d ∷ cs)) in
    cond (eqb c 13) (cond (eqb d 10) ended none) (cond (eqb c 10) none on)

-- a line parted at its commas
unfoldable pub parted : Line → List (List ℕ)
parted [] = [] ∷ []
parted (c ∷ cs) = let r = parted cs in cond (eqb c 44) ([] ∷ r) (begun c r)

-- "last line `-`"
unfoldable pub last_is_closing : List Line → Bool
last_is_closing [] = false
last_is_closing (l ∷ []) = equal l (ascii "-")
last_is_closing (l ∷ m ∷ ls) = last_is_closing (m ∷ ls)

-- "lines ended by CR LF, last line `-`"
abbrev pub in_lines : Option (List Line) → Bool
in_lines none = false
in_lines (some ls) = last_is_closing ls

-- all that is left of a message is its closing line
unfoldable pub is_closing_line : List ℕ → Bool
is_closing_line cs = equal cs (ascii "-\r\n")

-- "First line `type,sender,receiver`: three digits .., two BICs"
unfoldable pub has_first_line : List ℕ → Bool
has_first_line s = fits (ascii "nnn,aaaaaacc,aaaaaacc\r\n") (take 23 s)

-- "At most 4,096 bytes, lines ended by CR LF, last line `-`."
unfoldable pub framed : List ℕ → Bool
framed s = leb (length s) 4096 && in_lines (lines s) && has_first_line s

-- "`type,sender,receiver`": three digits
unfoldable pub type : List ℕ → List ℕ
type s = take 3 s

-- the first BIC
unfoldable pub sender : List ℕ → List ℕ
sender s = take 8 (drop 4 s)

-- the second BIC, "receiver BNBGBGSD"
unfoldable pub receiver : List ℕ → List ℕ
receiver s = take 8 (drop 13 s)

-- the lines behind the first
unfoldable pub body : List ℕ → List ℕ
body s = drop 23 s
