-- A part that a call is handed, as n bytes from one place on.
use Rattle.std.specs.Prelude.{◌≡◌, List, ℕ, ◌+◌, ◌-◌, take, drop}
use Rattle.std.proofs.Common.{arith}
use Rattle.laws.specs.Parts.{cut}
use Rattle.laws.specs.Slices.{part_cut}

pub part_at : (s : List ℕ) (a n : ℕ) → take (a + n - a) (drop a s) ≡ cut s a (a + n)
part_at s a n = part_cut s a (a + n) (omega arith)
