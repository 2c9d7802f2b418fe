-- What the code's key and position say in the paper's words.
use Rattle.rules.specs.Engine as E
use Rattle.position.specs.declared.Key.{Key}
use Rattle.position.specs.declared.Position.{Position}

-- a key
abbrev pub key_value : Key → E.Key
key_value k = record { bank = k.bank; date = k.date }

-- a position
abbrev pub position_value : Position → E.Position
position_value p = record { key = key_value p.key; transferred = p.transferred; detailed = p.detailed }

-- "A missing one begins with 0 and 0."
abbrev pub empty : Key → Position
empty k = record { key = k; transferred = 0; detailed = 0 }
