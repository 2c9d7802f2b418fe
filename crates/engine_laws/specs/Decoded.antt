-- What is read off an area that holds an engine: the engine is what it says, the numbers of its header are those of its positions and references, and its texts stand in it.
use Rattle.std.specs.Prelude.{◌≡◌, true, List, ℕ, ◌≤◌, ◌<◌, leb, length, drop}
use Rattle.std.proofs.Math.Path.{sym}
use Rattle.std.proofs.Common.{ap, ◌∙◌, arith, leb-true}
use Rattle.std.proofs.Math.Option.{some}
use Rattle.rules.specs.Text.{is_some}
use Rattle.rules.specs.Area.{number_at, length_at, position_in, reference_in, decode, holds, area_size, positions_place, many_positions_place, many_references_place, references_place}
use Rattle.rule_laws.specs.Options.{There, there}
use Rattle.engine_laws.specs.Limits.{Limits, limits}
use Rattle.engine_laws.specs.Several.{TextRoom, text_in}
use Rattle.engine_laws.specs.EngineIn.{EngineIn, engine_in, texts_count}
use Rattle.engine_laws.specs.Sections.{engine_texts}
use Rattle.engine_laws.specs.Tests.{text_count}
use Rattle.engine_laws.specs.Checked.{reads_length}

module _ (a : List ℕ) (h : is_some (holds a) ≡ true) where
  -- the engine in the area is the one that is read
  pub decoded : EngineIn a (decode a)
  decoded = let x : There (holds a) = there (holds a) h in let y : EngineIn a x.value = engine_in a x.value x.is in rw y.read y

  pub holds_decode : holds a ≡ some (decode a)
  holds_decode = let x : There (holds a) = there (holds a) h in x.is ∙ ap some (sym (engine_in a x.value x.is).read)

  pub decoded_limits : Limits (decode a)
  decoded_limits = limits (decode a) decoded.good

  pub decoded_room : (k : ℕ) → leb k area_size ≡ true → k ≤ length a
  decoded_room k l = let m : k ≤ area_size = leb-true k area_size l in omega (arith, decoded.long)

  -- how many positions and references there are
  pub decoded_positions : number_at a many_positions_place 1 ≡ length (decode a).positions
  unfolding decode
  decoded_positions = sym (reads_length position_in (number_at a many_positions_place 1) (drop positions_place a))

  pub decoded_references : number_at a many_references_place 1 ≡ length (decode a).references
  unfolding decode
  decoded_references = sym (reads_length reference_in (number_at a many_references_place 1) (drop references_place a))

  -- text k stands within the area
  pub decoded_text : (k : ℕ) → k < text_count → TextRoom a k (length_at a k)
  decoded_text k l = text_in (engine_texts a (decode a) decoded) k (rw texts_count l) decoded.long
