-- The header of an area: its numbers as they stand, which are those of the engine that the area holds.
use Rattle.std.specs.Prelude.{◌≡◌, true, List, ℕ, ◌+◌, ◌*◌, ◌≤◌, ◌<◌, length, get_or}
use Rattle.std.proofs.Common.{sym, ap, ◌∙◌, arith, drop-cons, zero-add}
use Rattle.rules.specs.Text.{big_endian, number_from, is_some}
use Rattle.rules.specs.Area.{number_at, decode, holds, area_size, references_place, day_place, count_place, many_positions_place, many_references_place, currency_place}
use Rattle.laws.specs.Parts.{cut}
use Rattle.engine_laws.specs.Limits.{Limits}
use Rattle.engine_laws.specs.Records.{cut_is}
use Rattle.engine_laws.specs.Decoded.{decoded, decoded_limits, decoded_positions, decoded_references}
use Rattle.engine.specs.declared.header.Header.{Header}

-- the numbers as they stand
pub record HeaderAt (a : List ℕ) (h : Header) : Type 0 where
  pub day : h.day ≡ number_at a day_place 3
  pub count : h.count ≡ number_at a count_place 2
  pub positions : h.positions ≡ number_at a many_positions_place 1
  pub references : h.references ≡ number_at a many_references_place 1

-- a number of one byte
byte_is : (a : List ℕ) (i : ℕ) → i < length a → get_or a i 0 ≡ number_at a i 1
unfolding number_from
byte_is a i h = rw (drop-cons a i 0 h) (sym (zero-add (get_or a i 0)))

pub header_read : (a : List ℕ) {day count positions references : ℕ} → day ≡ number_at a day_place 3 → count ≡ number_at a count_place 2 → positions ≡ number_at a many_positions_place 1 → references ≡ number_at a many_references_place 1
    → HeaderAt a record { day = day; count = count; positions = positions; references = references }
header_read a d c p r = record { day = d; count = c; positions = p; references = r }

-- two of them as their bytes
pub header_bytes : (a : List ℕ) {day count : ℕ} → references_place ≤ length a → day ≡ number_at a day_place 3 → count ≡ number_at a count_place 2
    → HeaderAt a record { day = day; count = count; positions = get_or a many_positions_place 0; references = get_or a many_references_place 0 }
header_bytes a h d c = header_read a d c (byte_is a many_positions_place (omega arith)) (byte_is a many_references_place (omega arith))

-- what is asked of a number that was read is asked of the bytes where it stands
module _ (a : List ℕ) (x : Header) (n : HeaderAt a x) where
  pub day_stands : x.day ≡ big_endian (cut a day_place count_place)
  day_stands = n.day ∙ ap big_endian (sym (cut_is a 2 3))

  pub count_stands : x.count ≡ big_endian (cut a count_place many_positions_place)
  count_stands = n.count ∙ ap big_endian (sym (cut_is a 5 2))

  pub positions_stand : x.positions ≡ big_endian (cut a many_positions_place many_references_place)
  positions_stand = n.positions ∙ ap big_endian (sym (cut_is a 7 1))

  pub references_stand : x.references ≡ big_endian (cut a many_references_place currency_place)
  references_stand = n.references ∙ ap big_endian (sym (cut_is a 8 1))

-- the numbers of the engine that the area holds
pub record HeaderOf (a : List ℕ) (h : Header) : Type 0 where
  pub long : area_size ≤ length a
  pub day : h.day ≡ (decode a).day
  pub count : h.count ≡ (decode a).count
  pub positions : h.positions ≡ length (decode a).positions
  pub references : h.references ≡ length (decode a).references
  pub positions_few : h.positions ≤ 32
  pub references_few : h.references ≤ 64
  pub count_small : h.count ≤ 32 + 18 * 64

pub header_told : (a : List ℕ) (x : Header) → is_some (holds a) ≡ true → HeaderAt a x → HeaderOf a x
unfolding decode
header_told a x h n =
    let l : Limits (decode a) = decoded_limits a h in
    let p : x.positions ≡ length (decode a).positions = n.positions ∙ decoded_positions a h in
    let r : x.references ≡ length (decode a).references = n.references ∙ decoded_references a h in record {
      long = (decoded a h).long;
      day = n.day;
      count = n.count;
      positions = p;
      references = r;
      positions_few = omega (arith, l.few, p);
      references_few = omega (arith, l.references_few, r);
      count_small = omega (arith, l.numbered, l.references_few, n.count);
    }

-- the header is there
pub header_room : (a : List ℕ) → is_some (holds a) ≡ true → references_place ≤ length a
header_room a h = omega (arith, (decoded a h).long)

pub ruleset heading = (header_bytes, header_told, header_room)
