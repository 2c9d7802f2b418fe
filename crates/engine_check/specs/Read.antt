-- Number 10 by the numbers of the header as they were read: each test is that of the bytes where they stand, and the texts end where the last one does.
use Rattle.std.specs.Prelude.{◌≡◌, Bool, true, false, not, List, ℕ, ◌+◌, ◌≤◌, take, drop, length}
use Rattle.rules.specs.Text.{big_endian, every}
use Rattle.rules.specs.Dates.{exists}
use Rattle.rules.specs.Engine.{key_before}
use Rattle.rules.specs.Area.{position_in, area_size, day_place, count_place, many_positions_place, many_references_place, currency_place, record_size}
use Rattle.laws.specs.Parts.{cut}
use Rattle.engine_laws.specs.Tests.{counts_test, header_test, references_test, value_at, key_at, values_test, order_test, positions_test, is_zero, text_count, is_register, is_list, register_test, list_test, texts_test}
use Rattle.engine_laws.specs.Ways.{bank_part, block_part, few_references, few_positions, text_behind}
use Rattle.position.specs.Values.{key_value, position_value}
use Rattle.position.specs.declared.Key as K
use Rattle.position.specs.declared.Position as P
use Rattle.engine.specs.Positions.{PositionAt}
use Rattle.engine.specs.Header.{HeaderAt, day_stands, count_stands, positions_stand, references_stand}
use Rattle.std.proofs.Common.{arith}
use borrow.Author.Tests.{not-true, not-false}
use Rattle.engine_laws.specs.Several.{TextRoom, first_room}
use Rattle.engine.specs.Texts.{PlaceAt}
use Rattle.engine.specs.declared.header.Header.{Header}
use Rattle.rule_laws.specs.Registers.{longest_register}
use Rattle.rule_laws.specs.Holidays.{longest_list}

module _ (a : List ℕ) (x : Header) (n : HeaderAt a x) (t : Bool) where
  pub day_read : t ≡ exists x.day → t ≡ exists (big_endian (cut a day_place count_place))
  day_read e = rw (day_stands a x n) at e

  pub counts_read : t ≡ counts_test x.count x.positions x.references → t ≡ counts_test (big_endian (cut a count_place many_positions_place)) (big_endian (cut a many_positions_place many_references_place)) (big_endian (cut a many_references_place currency_place))
  counts_read e = rw (count_stands a x n, positions_stand a x n, references_stand a x n) at e

  pub references_read : t ≡ references_test a x.references → t ≡ references_test a (big_endian (cut a many_references_place currency_place))
  references_read e = rw (references_stand a x n) at e

  pub positions_read : t ≡ positions_test x.day a x.positions → t ≡ positions_test (big_endian (cut a day_place count_place)) a (big_endian (cut a many_positions_place many_references_place))
  positions_read e = rw (day_stands a x n, positions_stand a x n) at e

  module _ (u : t ≡ header_test a) (h : not t ≡ false) where
    pub references_within : x.references ≤ 64
    references_within = rw (references_stand a x n) (few_references a t u h)

    pub positions_within : x.positions ≤ 32
    positions_within = rw (positions_stand a x n) (few_positions a t u h)

-- a position and keys that were read
module _ (a : List ℕ) (p : ℕ) (t : Bool) where
  pub values_told : (day : ℕ) (q : P.Position) → PositionAt a p q → t ≡ values_test day (position_value q) → t ≡ values_test day (position_in (take record_size (drop p a)))
  unfolding value_at
  values_told day q v e = rw v.value at e

  pub order_told : (k l : K.Key) → key_value k ≡ key_at a p → key_value l ≡ key_at a (p + record_size) → t ≡ key_before (key_value k) (key_value l) → t ≡ order_test a p
  unfolding order_test
  order_told k l e f u = rw (e, f) at u

pub ruleset positions = (bank_part, block_part, values_told, order_told)

-- behind a register that passed there is room for a holiday list
module _ (a : List ℕ) (t : Bool) (u : t ≡ register_test a 0) (h : not t ≡ false) where
  pub list_room : area_size ≤ length a → TextRoom a 1 longest_list
  list_room l = text_behind longest_register is_register a 0 longest_list t (first_room a (longest_register + longest_list) l (omega arith)) u h

  module _ (s : Bool) (v : s ≡ list_test a 1) where
    pub list_refused : not s ≡ true → false ≡ texts_test a
    unfolding texts_test
    list_refused g = rw (← u, not-false t h, ← v, not-true s g)

    -- texts that passed end at p, within the area
    module _ (g : not s ≡ false) {p : ℕ} (q : PlaceAt a text_count p) where
      pub texts_within : area_size ≤ length a → p ≤ area_size
      texts_within l = omega (arith, q.value, (text_behind longest_list is_list a 1 0 s (list_room l) v g).fits)

      pub texts_read : (r : Bool) → r ≡ every is_zero (cut a p area_size) → r ≡ texts_test a
      unfolding texts_test
      texts_read r e = rw (← u, not-false t h, ← v, not-false s g, ← q.value) e

pub ruleset read = (day_read, counts_read, references_read, positions_read, references_within, positions_within, list_room, list_refused, texts_within, texts_read)
