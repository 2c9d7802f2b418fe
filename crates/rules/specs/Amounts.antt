-- Document 01, "Dates, amounts, accounts": amounts, in stotinki, 100 to the lev.
use Rattle.std.specs.Prelude.{◌&&◌, cond, List, [], ◌∷◌, ◌++◌, ℕ, ◌+◌, ◌-◌, ◌*◌, ◌/◌, ◌%◌, leb, eqb, length, get_or}
use Rattle.std.proofs.Math.Option.{Option, none, some}
use Rattle.rules.specs.Text.{ascii, is_digit, fixed, decimal}

-- "zero to two digits" behind the comma, v levs before it
unfoldable pub decimals : ℕ → List ℕ → Option ℕ
decimals v [] = some (v * 100)
decimals v (a ∷ []) = cond (is_digit a) (some (v * 100 + (a - 48) * 10)) none
decimals v (a ∷ b ∷ []) = cond (is_digit a && is_digit b) (some (v * 100 + (a - 48) * 10 + (b - 48))) none
decimals v (a ∷ b ∷ c ∷ cs) = none

-- v levs are read: further digits, "one comma", and what stands behind it
unfoldable pub levs : ℕ → List ℕ → Option ℕ
levs v [] = none
levs v (c ∷ cs) = let r = levs (v * 10 + (c - 48)) cs in cond (is_digit c) r (cond (eqb c 44) (decimals v cs) none)

-- "An amount (15d) has 1 to 15 characters: one or more digits, one comma, zero to two digits."
unfoldable pub amount : List ℕ → Option ℕ
amount cs = cond (leb (length cs) 15 && is_digit (get_or cs 0 0)) (levs 0 cs) none

-- "We write no leading zero but one before the comma, and always two decimals.", with a comma or a point
unfoldable pub written : List ℕ → ℕ → List ℕ
written mark v = decimal (v / 100) ++ mark ++ fixed 2 (v % 100)

-- an amount of a message, "one before the comma"
abbrev pub with_comma : ℕ → List ℕ
with_comma v = written (ascii ",") v

-- "the two sums a point"
abbrev pub with_point : ℕ → List ℕ
with_point v = written (ascii ".") v
