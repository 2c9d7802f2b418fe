-- The conditions that stop a move: one law for each way out of the functions that test them.
use Rattle.std.specs.Prelude.{◌≡◌, Bool, true, false, not, List, [], ◌∷◌, ℕ, ◌+◌, ◌-◌, ◌≤◌, ◌<◌, leb, length}
use Rattle.std.proofs.Common.{◌∙◌, arith, length-append, length-take}
use borrow.Author.Tests.{le-leb, lt-leb, not-true, not-false}
use Rattle.rules.specs.Text.{is_some}
use Rattle.rules.specs.Register.{register, register_of, old_register}
use Rattle.rules.specs.Calls.{Stop, stop, first_of}
use Rattle.rules.specs.Moves.{end_line, with_end, without_end, has_codes, newer_stops, older_stops}
use Rattle.rule_laws.specs.Options.{There, there}
use Rattle.rule_laws.specs.Registers.{register_size}

-- ---- the lengths of the texts

length_with : (cs : List ℕ) → length (with_end cs) ≡ length cs + 5
unfolding with_end
length_with cs = length-append cs end_line

length_without : (cs : List ℕ) → length (without_end cs) ≡ length cs - 5
unfolding without_end
length_without cs = length-take (length cs - 5) cs ∙ omega arith

-- ---- to the newer form

module _ (text : List ℕ) (room : ℕ) (t : Bool) (u : t ≡ is_some (old_register text)) where
  pub newer_register : not t ≡ true → 9 ≡ first_of (newer_stops room text)
  unfolding newer_stops first_of
  newer_register d = rw (← u, not-true t d)

  module _ (d : not t ≡ false) where
    pub newer_room : room < length text + 5 → 16 ≡ first_of (newer_stops room text)
    unfolding newer_stops first_of
    newer_room l = rw (← u, not-false t d, length_with text, lt-leb (length text + 5) room l)

    pub newer_none : length text + 5 ≤ room → 0 ≡ first_of (newer_stops room text)
    unfolding newer_stops first_of
    newer_none l = rw (← u, not-false t d, length_with text, le-leb (length text + 5) room l)

-- ---- to the older form

-- 19 and 16, by what was found
unfoldable pub way_stops : Bool → Bool → List Stop
way_stops coded fits = stop 19 coded ∷ stop 16 (not fits) ∷ []

module _ (coded fits : Bool) where
  pub way_coded : coded ≡ true → 19 ≡ first_of (way_stops coded fits)
  unfolding way_stops first_of
  way_coded h = rw h

  module _ (h : coded ≡ false) where
    pub way_short : not fits ≡ true → 16 ≡ first_of (way_stops coded fits)
    unfolding way_stops first_of
    way_short k = rw (h, k)

    pub way_none : not fits ≡ false → 0 ≡ first_of (way_stops coded fits)
    unfolding way_stops first_of
    way_none k = rw (h, k)

module _ (text : List ℕ) (room : ℕ) where
  pub older_register : is_some (register text) ≡ false → 9 ≡ first_of (older_stops room text)
  unfolding older_stops first_of
  older_register d = rw d

  -- a register's text has a last line
  pub older_last : is_some (register text) ≡ true → 5 ≤ length text
  older_last d = let r : There (register text) = there (register text) d in omega (arith, register_size text r.value r.is)

  pub older_way : is_some (register text) ≡ true → (coded : Bool) → coded ≡ has_codes (register_of text) → (r : ℕ) → r ≡ first_of (way_stops coded (leb (length text - 5) room)) → r ≡ first_of (older_stops room text)
  unfolding older_stops way_stops first_of
  older_way d coded c r e = e ∙ rw (d, ← c, length_without text)

pub ruleset stopping = (newer_register, newer_room, newer_none, way_coded, way_short, way_none, older_register, older_last, older_way)
