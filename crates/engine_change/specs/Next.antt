-- The area of the next engine: positions, references and the header's numbers laid over the area before, while the texts and what stands behind stay.
use Rattle.std.specs.Prelude.{◌≡◌, refl, List, [], ◌++◌, map, ℕ, ◌≤◌, length, drop}
use Rattle.std.proofs.Common.{sym, ◌∙◌, append_assoc, arith, length-append}
use Rattle.rules.specs.Engine.{Position, Reference, Engine}
use Rattle.rules.specs.Area.{reference_record, key_bytes, position_record, reference_in, header, encode, area_size, positions_place, positions_room, references_room, texts_of, record_size, references_place}
use Rattle.laws.specs.Digits.{places_length}
use Rattle.laws.specs.Laid.{laid}
use Rattle.laws.specs.Writing.{Wrote}
use Rattle.laws.specs.Sections.{Each, each_map}
use Rattle.laws.specs.Standing.{Stands}
use Rattle.engine_laws.specs.Limits.{limits}
use Rattle.engine_laws.specs.Layout.{written_each}
use Rattle.engine_laws.specs.EngineIn.{EngineIn, references_kept}
use Rattle.engine_laws.specs.Sections.{reference_part, position_part, text_part, Of, header_length, sections_encode, engine_sections, positions_stand}
use Rattle.engine_change.specs.Header.{numbers, lengths, header_halves, numbers_length}
use Rattle.engine_change.specs.Changes.{section, section_length, stands_back, stands_other}

-- ---- records

pub position_wide : (p : Position) → length (position_record p) ≡ record_size
unfolding position_record key_bytes
position_wide p = simp (length-append, places_length)

-- ---- the sections of an engine's area

module _ {area : List ℕ} {e : Engine} (h : EngineIn area e) where
  pub references_each : Each record_size (map reference_record e.references)
  references_each = written_each reference_record reference_in (references_kept e.references (limits e h.good).forms)

  pub positions_section : Stands (header e ++ reference_part e.references) (section positions_room position_record e.positions) (text_part (texts_of e) ++ drop area_size area) positions_place area
  unfolding position_part
  positions_section = positions_stand (engine_sections area e h)

-- ---- the next engine, with the same texts

-- its records fit
pub record Fits (next : Engine) : Type 0 where
  pub few : length next.positions ≤ 32
  pub references_few : length next.references ≤ 64
  pub wide : Each record_size (map reference_record next.references)

references_length : (rs : List Reference) → Each record_size (map reference_record rs) → length rs ≤ 64 → length (reference_part rs) ≡ references_room
unfolding reference_part
references_length rs s l = section_length reference_record references_room rs s (omega arith)

pub positions_length : (ps : List Position) → length ps ≤ 32 → length (position_part ps) ≡ positions_room
unfolding position_part
positions_length ps l = section_length position_record positions_room ps (each_map position_record position_wide ps) (omega arith)

pub assembled : {area b c d : List ℕ} {e : Engine} {r : ℕ} (next : Engine) → EngineIn area e → texts_of next ≡ texts_of e → Fits next → b ≡ laid (position_part next.positions) positions_place area
    → c ≡ laid (reference_part next.references) references_place b → Wrote (numbers next.day next.count (length next.positions) (length next.references)) 0 c r d → d ≡ encode next ++ drop area_size area
assembled {area} {b} {c} {d} {e} next h g f u v w =
    let s : Of e (drop area_size area) area = engine_sections area e h in
    let N : List ℕ = numbers e.day e.count (length e.positions) (length e.references) in
    let N' : List ℕ = numbers next.day next.count (length next.positions) (length next.references) in
    let L : List ℕ = lengths (texts_of e) in
    let R : List ℕ = reference_part e.references in
    let R' : List ℕ = reference_part next.references in
    let P' : List ℕ = position_part next.positions in
    let Q : List ℕ = text_part (texts_of e) ++ drop area_size area in
    let lR : length R' ≡ references_room = references_length next.references f.wide f.references_few in
    let lP : length P' ≡ positions_room = positions_length next.positions f.few in
    let t : Stands (header e ++ R) P' Q positions_place b = rw (← u) at (stands_other P' (lP ∙ sym s.positions) (positions_stand s)) in
    let t₂ : Stands (header e) R' (P' ++ Q) references_place c = rw (← v) at (stands_other R' (lR ∙ sym s.references) (stands_back (header e) R P' Q s.head t)) in
    let t₃ : Stands [] N (L ++ (R' ++ (P' ++ Q))) 0 c = record { before = refl; whole = t₂.whole ∙ rw (header_halves e) (append_assoc N L (R' ++ (P' ++ Q))) } in
    let t₄ : Stands [] N' (L ++ (R' ++ (P' ++ Q))) 0 d = rw (← w.output) at (stands_other N' (numbers_length _ _ _ _ ∙ sym (numbers_length _ _ _ _)) t₃) in
    let x : d ≡ header next ++ (R' ++ (P' ++ (text_part (texts_of next) ++ drop area_size area))) = t₄.whole ∙ rw (header_halves next, g, append_assoc) in
    sections_encode next (drop area_size area) d record { whole = x; head = header_length next; references = lR; positions = lP; text = rw g s.text }
