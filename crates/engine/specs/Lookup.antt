-- Looked up in an area that holds an engine: what is found among its records is found among the engine's references; a position is found at its place.
use Rattle.std.specs.Prelude.{◌≡◌, Bool, true, List, ℕ, ◌<◌, length}
use Rattle.std.proofs.Common.{sym, ◌∙◌, arith}
use Rattle.rules.specs.Text.{is_some, any}
use Rattle.rules.specs.Engine.{Reference}
use Rattle.rules.specs.Area.{number_at, decode, holds, many_positions_place, many_references_place, references_place}
use Rattle.engine_laws.specs.Decoded.{decoded_room, decoded_limits, decoded_positions, decoded_references}
use Rattle.engine.specs.declared.header.Header.{Header}
use Rattle.engine.specs.Header.{HeaderOf}
use Rattle.engine.specs.Positions.{positions_from, values_are}
use Rattle.engine.specs.Records.{many}
use Rattle.engine.specs.Totals.{found_place, totals_found, totals_missing}
use Rattle.engine.specs.References.{references_at}

-- a position has a place below 32
pub position_few : (a : List ℕ) (i : ℕ) → is_some (holds a) ≡ true → i < length (decode a).positions → i < 32
position_few a i h l = omega (arith, l, (decoded_limits a h).few)

module _ (a : List ℕ) (h : is_some (holds a) ≡ true) (x : Header) (n : HeaderOf a x) where
  many_positions : number_at a many_positions_place 1 ≡ x.positions
  many_positions = decoded_positions a h ∙ sym n.positions

  many_references : number_at a many_references_place 1 ≡ x.references
  many_references = decoded_references a h ∙ sym n.references

  pub positions_are : (decode a).positions ≡ positions_from a 0 x.positions
  unfolding decode
  positions_are = rw (many_positions, values_are)

  pub used_decoded : (p : Reference → Bool) (r : Bool) → r ≡ any p (references_at a references_place x.references) → r ≡ any p (decode a).references
  unfolding decode
  used_decoded p r e = rw (many_references, values_are) e

pub ruleset looking = (decoded_room, position_few, many, found_place, totals_found, totals_missing, used_decoded)
