-- A number of some bytes of an area.
use Rattle.std.specs.Prelude.{◌≡◌, List, ℕ, ◌^◌, ◌<◌, ◌+◌, ◌≤◌, length, get_or}
use Rattle.std.proofs.Common.{sym, ap, ◌∙◌, arith}
use Rattle.rules.specs.Text.{big_endian}
use Rattle.rules.specs.Area.{number_at}
use Rattle.laws.specs.Parts.{cut, from, cut_length, from_take}
use Rattle.laws.specs.Numbers.{bytes_within, within_cut, number_small}

-- r is the number of the w bytes at a place
pub record NumberAt (s : List ℕ) (at w r : ℕ) : Type 0 where
  pub value : r ≡ number_at s at w
  pub small : r < 256 ^ w

pub number_bound : (s : List ℕ) (at w r : ℕ) → ((i : ℕ) → get_or s i 0 < 256) → at + w ≤ length s → r ≡ big_endian (cut s at (at + w)) → NumberAt s at w r
unfolding from
number_bound s at w r h l e =
    let n : length (cut s at (at + w)) ≡ w = cut_length s at (at + w) l ∙ omega arith in
    record { value = e ∙ ap big_endian (sym (from_take s at w)); small = rw e (rw n at (number_small (within_cut at (at + w) (bytes_within s h)))) }
