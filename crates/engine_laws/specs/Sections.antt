-- The four sections of an area, header, references, positions and texts: where each stands, and that an area with an engine's sections is the engine's.
use Rattle.std.specs.Prelude.{◌≡◌, true, List, ◌++◌, map, ℕ, length, drop}
use Rattle.std.proofs.Common.{◌∙◌, append_assoc, arith, length-append}
use Rattle.rules.specs.Text.{bytes}
use Rattle.rules.specs.Engine.{Position, Reference, Engine, within}
use Rattle.rules.specs.Area.{padded, joined, reference_record, position_record, texts_of, lengths_of, reference_in, position_in, mark, header, encode, area_size, references_place, positions_place, positions_room, references_room, texts_place, texts_room}
use Rattle.laws.specs.Digits.{places_length}
use Rattle.laws.specs.Sections.{padded_length}
use Rattle.laws.specs.Standing.{Stands}
use Rattle.engine_laws.specs.Limits.{Limits, limits}
use Rattle.engine_laws.specs.Several.{Texts, lengths_length}
use Rattle.engine_laws.specs.EngineIn.{EngineIn, engine_parts, positions_kept, references_kept, texts_few, texts_fit}
use Rattle.engine_laws.specs.Layout.{written_length}

-- the bytes of references, of positions and of texts in their sections
unfoldable pub reference_part : List Reference → List ℕ
reference_part rs = padded references_room (joined (map reference_record rs))

unfoldable pub position_part : List Position → List ℕ
position_part ps = padded positions_room (joined (map position_record ps))

unfoldable pub text_part : List (List ℕ) → List ℕ
text_part ts = padded texts_room (joined ts)

-- an area in its sections: h the header, r references, p positions, t texts, and q behind them
pub record Sections (h r p t q a : List ℕ) : Type 0 where
  pub whole : a ≡ h ++ (r ++ (p ++ (t ++ q)))
  pub head : length h ≡ references_place
  pub references : length r ≡ references_room
  pub positions : length p ≡ positions_room
  pub text : length t ≡ texts_room

pub header_length : (e : Engine) → length (header e) ≡ references_place
unfolding header
header_length e = simp (length-append, places_length, lengths_length (texts_of e) (texts_few e))

-- the sections of an engine
abbrev pub Of : Engine → List ℕ → List ℕ → Type 0
Of e q a = Sections (header e) (reference_part e.references) (position_part e.positions) (text_part (texts_of e)) q a

pub sections_encode : (e : Engine) (q a : List ℕ) → Of e q a → a ≡ encode e ++ q
unfolding encode reference_part position_part text_part
sections_encode e q a s = s.whole ∙ simp append_assoc

pub encode_sections : (e : Engine) (q : List ℕ) → within e ≡ true → Of e q (encode e ++ q)
unfolding encode reference_part position_part text_part
encode_sections e q w =
    let l : Limits e = limits e w in record {
      whole = simp append_assoc;
      head = header_length e;
      references = padded_length references_room _ (omega (arith, written_length reference_record reference_in (references_kept e.references l.forms), l.references_few));
      positions = padded_length positions_room _ (omega (arith, written_length position_record position_in (positions_kept e.day e.positions l.good), l.few));
      text = padded_length texts_room _ (texts_fit e l);
    }

pub engine_sections : (a : List ℕ) (e : Engine) → EngineIn a e → Of e (drop area_size a) a
engine_sections a e h =
    let s : Of e (drop area_size a) (encode e ++ drop area_size a) = encode_sections e (drop area_size a) h.good in
    record { whole = engine_parts a e h ∙ s.whole; head = s.head; references = s.references; positions = s.positions; text = s.text }

-- ---- where each stands

module _ {h r p t q a : List ℕ} (s : Sections h r p t q a) where
  pub references_stand : Stands h r (p ++ (t ++ q)) references_place a
  references_stand = record { before = s.head; whole = s.whole }

  pub positions_stand : Stands (h ++ r) p (t ++ q) positions_place a
  positions_stand = record { before = rw (length-append, s.head, s.references); whole = s.whole ∙ simp append_assoc }

  pub text_stands : Stands (h ++ r ++ p) t q texts_place a
  text_stands = record { before = rw (length-append, length-append, s.head, s.references, s.positions); whole = s.whole ∙ simp append_assoc }

-- what stands behind the currency: the lengths, and the sections
pub lengths_apart : (n o l q : List ℕ) → n ++ (o ++ l) ++ q ≡ n ++ o ++ (l ++ q)
lengths_apart n o l q = simp append_assoc

-- the texts of an engine stand in its area
pub engine_texts : (a : List ℕ) (e : Engine) → EngineIn a e → Texts (texts_of e) a
unfolding header text_part
engine_texts a e h =
    let s : Of e (drop area_size a) a = engine_sections a e h in
    let N : List ℕ = mark ++ bytes 3 e.day ++ bytes 2 e.count ++ bytes 1 (length e.positions) ++ bytes 1 (length e.references) in
    let R : List ℕ = reference_part e.references ++ (position_part e.positions ++ (text_part (texts_of e) ++ drop area_size a)) in
    record {
      few = texts_few e;
      fit = texts_fit e (limits e h.good);
      head = N ++ bytes 1 0;
      sections = R;
      lengths = record { before = simp (length-append, places_length); whole = s.whole ∙ lengths_apart N (bytes 1 0) (lengths_of (texts_of e)) R };
      front = header e ++ reference_part e.references ++ position_part e.positions;
      behind = drop area_size a;
      texts = text_stands s;
    }
