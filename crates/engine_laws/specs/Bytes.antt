-- A slice holds bytes.
use Rattle.std.specs.Prelude.{List, ℕ, ◌<◌, get_or}

-- each element of a list is a byte
abbrev pub Bytes : List ℕ → Type 0
Bytes s = (i : ℕ) → get_or s i 0 < 256
