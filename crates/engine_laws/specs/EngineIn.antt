-- What an area holds: the area that `encode` gives holds that engine, whatever stands behind it, and an area holds at most one engine.
use Rattle.std.specs.Prelude.{◌≡◌, ◌&&◌, get_or}
use Rattle.std.proofs.Math.Path.{refl}
use Rattle.std.proofs.Common.{sym, ap, ◌∙◌, arith, length-append, take-append-drop, drop_at}
use Rattle.std.proofs.Math.Bool.{true}
use mathlib.Core.List.{List, [], ◌∷◌, ◌++◌, map, append_assoc, append-nil}
use Rattle.std.proofs.Math.Option.{none, some}
use Prim.Native.Nat.{ℕ, ◌+◌, ◌-◌, ◌*◌, ◌≤◌, ◌<◌}
use Rattle.std.proofs.Math.Dec.{leb}
use Rattle.std.proofs.Math.ListN.{length, take, drop}
use Rattle.std.proofs.Math.Seq.{take_at}
use borrow.Author.Tests.{leb-true, le-leb}
use Rattle.rules.specs.Text.{bytes}
use Rattle.rules.specs.Engine.{Position, Reference, Engine, good_position, good_positions, good_reference, good_references, within}
use Rattle.rules.specs.Area.{zeros, padded, joined, reference_record, position_record, texts_of, lengths_of, mark, header, encode, number_at, reference_in, position_in, text_at, records, decode, holds, area_size, lengths_room, references_place, positions_place, positions_room, references_room, texts_room, day_place, count_place, many_positions_place, many_references_place}
use Rattle.laws.specs.Digits.{places_length}
use Rattle.laws.specs.Sections.{zeros_length, padded_length}
use Rattle.laws.specs.Tests.{and_left, and_right, cond_right, cond_left}
use Rattle.laws.specs.Equal.{equal_true, equal_same}
use Rattle.laws.specs.All.{All, All.none, All.more}
use Rattle.rule_laws.specs.Options.{Gave, gave}
use Rattle.rule_laws.specs.Dates.{date_small}
use Rattle.rule_laws.specs.Registers.{register_length}
use Rattle.rule_laws.specs.Holidays.{list_length}
use Rattle.engine_laws.specs.Limits.{Limits, limits}
use Rattle.engine_laws.specs.Layout.{WrittenBack, number_at_lem, position_kept, reference_kept, written_length, written_read}
use Rattle.engine_laws.specs.Tests.{text_count}
use Rattle.engine_laws.specs.Several.{Texts, lengths_length, text_back}

-- ---- the records of an engine within its limits

pub positions_kept : (day : ℕ) (ps : List Position) → good_positions day ps ≡ true → All (WrittenBack position_record position_in) ps
unfolding good_positions
positions_kept day [] h = none
positions_kept day (p ∷ ps) h =
    more (position_kept day p (cond_left (good_position day p) (good_positions day ps) h)) (positions_kept day ps (cond_right (good_position day p) (good_positions day ps) h))

pub references_kept : (rs : List Reference) → good_references rs ≡ true → All (WrittenBack reference_record reference_in) rs
unfolding good_references
references_kept [] h = none
references_kept (r ∷ rs) h =
    more (reference_kept r (cond_left (good_reference r) (good_references rs) h)) (references_kept rs (cond_right (good_reference r) (good_references rs) h))

-- ---- its texts

pub texts_count : (e : Engine) → length (texts_of e) ≡ text_count
unfolding texts_of
texts_count e = refl

pub texts_few : (e : Engine) → length (texts_of e) ≤ 3
texts_few e = omega (arith, texts_count e)

pub texts_fit : (e : Engine) → Limits e → length (joined (texts_of e)) ≤ texts_room
unfolding texts_of joined
texts_fit e l =
    rw (append-nil, length-append)
    (omega (arith, register_length e.register l.register, list_length e.holidays l.holidays))

-- the first is the register, the second the holiday list
register_first : (e : Engine) → get_or (texts_of e) 0 [] ≡ e.register
unfolding texts_of
register_first e = refl

list_second : (e : Engine) → get_or (texts_of e) 1 [] ≡ e.holidays
unfolding texts_of
list_second e = refl

-- ---- an encoded engine

drop_of : (a p q : List ℕ) (i : ℕ) → length p ≡ i → a ≡ p ++ q → drop i a ≡ q
drop_of a p q i h e = rw (e, drop_at p q i h)

-- the layout, with any two bytes m for the mark
image : List ℕ → Engine → List ℕ
image m e =
    (m ++ bytes 3 e.day ++ bytes 2 e.count ++ bytes 1 (length e.positions) ++ bytes 1 (length e.references) ++ (bytes 1 0 ++ lengths_of (texts_of e)))
    ++ padded references_room (joined (map reference_record e.references))
    ++ padded positions_room (joined (map position_record e.positions))
    ++ padded texts_room (joined (texts_of e))

module _ (e : Engine) (l : Limits e) (m : List ℕ) (two : length m ≡ 2) where
  R : List ℕ
  R = joined (map reference_record e.references)

  P : List ℕ
  P = joined (map position_record e.positions)

  length_R : length R ≤ references_room
  unfolding R
  length_R = omega (arith, written_length reference_record reference_in (references_kept e.references l.forms), l.references_few)

  length_P : length P ≤ positions_room
  unfolding P
  length_P = omega (arith, written_length position_record position_in (positions_kept e.day e.positions l.good), l.few)

  length_L : length (lengths_of (texts_of e)) ≡ lengths_room
  length_L = lengths_length (texts_of e) (texts_few e)

  image_length : length (image m e) ≡ area_size
  unfolding image R P
  image_length = simp (length-append, places_length, two, length_L, padded_length references_room R length_R, padded_length positions_room P length_P, padded_length texts_room (joined (texts_of e)) (texts_fit e l))

  -- it is read back, whatever stands behind it
  decode_image : (rest : List ℕ) → decode (image m e ++ rest) ≡ e
  unfolding decode image padded R P
  decode_image rest =
      let a : List ℕ = image m e ++ rest in
      let D : List ℕ = bytes 3 e.day in
      let C : List ℕ = bytes 2 e.count in
      let N : List ℕ = bytes 1 (length e.positions) in
      let M : List ℕ = bytes 1 (length e.references) in
      let O : List ℕ = bytes 1 0 in
      let L : List ℕ = lengths_of (texts_of e) in
      let G : List ℕ = joined (texts_of e) in
      let u : List ℕ = zeros (references_room - length R) in
      let v : List ℕ = zeros (positions_room - length P) in
      let w : List ℕ = zeros (texts_room - length G) ++ rest in
      let texts : List ℕ = R ++ (u ++ (P ++ (v ++ (G ++ w)))) in
      let few : length e.references ≤ 64 = l.references_few in
      let many : length e.positions ≤ 32 = l.few in
      let small : e.count ≤ 32 + 18 * length e.references = l.numbered in
      let day : e.day < 1000000 = date_small e.day l.day in
      let sizes : (length R ≤ references_room) × (length P ≤ positions_room) = (length_R, length_P) in
      let count_at : number_at a count_place 2 ≡ e.count =
      number_at_lem a (m ++ D) (N ++ (M ++ (O ++ (L ++ texts)))) 5 2 e.count (simp (length-append, places_length, two)) (omega arith) (simp append_assoc) in
      let positions_at : number_at a many_positions_place 1 ≡ length e.positions =
      number_at_lem a (m ++ D ++ C) (M ++ (O ++ (L ++ texts))) 7 1 _ (simp (length-append, places_length, two)) (omega arith) (simp append_assoc) in
      let references_at_lem : number_at a many_references_place 1 ≡ length e.references =
      number_at_lem a (m ++ D ++ C ++ N) (O ++ (L ++ texts)) 8 1 _ (simp (length-append, places_length, two)) (omega arith) (simp append_assoc) in
      let H : List ℕ = m ++ D ++ C ++ N ++ M ++ O ++ L in
      let from-R : drop references_place a ≡ R ++ (u ++ (P ++ (v ++ (G ++ w)))) = drop_of a H texts references_place (simp (length-append, places_length, two, length_L)) (simp append_assoc) in
      let from-P : drop positions_place a ≡ P ++ (v ++ (G ++ w)) =
      drop_of a (H ++ R ++ u) (P ++ (v ++ (G ++ w))) positions_place (simp (length-append, places_length, two, length_L, zeros_length) (omega arith)) (simp append_assoc) in
      let stand : Texts (texts_of e) a = record {
        few = texts_few e;
        fit = texts_fit e l;
        head = m ++ D ++ C ++ N ++ M ++ O;
        sections = texts;
        lengths = record { before = simp (length-append, places_length, two); whole = simp append_assoc };
        front = H ++ R ++ u ++ P ++ v;
        behind = rest;
        texts = record { before = simp (length-append, places_length, two, length_L, zeros_length) (omega arith); whole = simp append_assoc };
      } in
      let text : text_at a 0 ≡ e.register = text_back stand 0 (omega (arith, texts_count e)) ∙ register_first e in
      let list : text_at a 1 ≡ e.holidays = text_back stand 1 (omega (arith, texts_count e)) ∙ list_second e in
      let rs : map reference_in (records (number_at a many_references_place 1) (drop references_place a)) ≡ e.references =
      rw (references_at_lem, from-R) (written_read reference_record reference_in (u ++ (P ++ (v ++ (G ++ w)))) (references_kept e.references l.forms)) in
      let ps : map position_in (records (number_at a many_positions_place 1) (drop positions_place a)) ≡ e.positions =
      rw (positions_at, from-P) (written_read position_record position_in (v ++ (G ++ w)) (positions_kept e.day e.positions l.good)) in
      let at-day : number_at a day_place 3 ≡ e.day =
      number_at_lem a m (C ++ (N ++ (M ++ (O ++ (L ++ texts))))) 2 3 e.day two (omega arith) (simp append_assoc) in
      λ i. record { register = text i; holidays = list i; day = at-day i; positions = ps i; references = rs i; count = count_at i }

module _ (e : Engine) (h : within e ≡ true) where
  pub encode_length : length (encode e) ≡ area_size
  unfolding encode header image
  encode_length = image_length e (limits e h) mark refl

  pub decode_encode : (rest : List ℕ) → decode (encode e ++ rest) ≡ e
  unfolding encode header image
  decode_encode rest = decode_image e (limits e h) mark refl rest

  -- the area that `encode` gives holds that engine
  pub holds_encode : (rest : List ℕ) → holds (encode e ++ rest) ≡ some e
  unfolding holds
  holds_encode rest =
      let long : leb area_size (length (encode e ++ rest)) ≡ true = le-leb area_size (length (encode e ++ rest)) (rw (length-append, encode_length) (omega arith)) in
      let front : take area_size (encode e ++ rest) ≡ encode e = take_at (encode e) rest area_size encode_length in
      rw (decode_encode rest, long, h, front, equal_same (encode e))

-- an area that holds an engine: it is long enough, the engine is within its limits, and the first 6,144 bytes are the engine's, so that there is but one
pub record EngineIn (area : List ℕ) (e : Engine) : Type 0 where
  pub long : area_size ≤ length area
  pub good : within e ≡ true
  pub front : take area_size area ≡ encode e
  pub read : decode area ≡ e

pub engine_in : (area : List ℕ) (e : Engine) → holds area ≡ some e → EngineIn area e
unfolding holds
engine_in area e h =
    let g : Gave _ (decode area) e = gave _ _ h in
    let t : (leb area_size (length area) && within (decode area)) ≡ true = and_left _ _ g.test in record {
      long = leb-true area_size (length area) (and_left _ _ t);
      good = rw g.is at (and_right (leb area_size (length area)) _ t);
      front = sym (rw g.is at (equal_true (encode (decode area)) (take area_size area) (and_right (leb area_size (length area) && within (decode area)) _ g.test)));
      read = g.is;
    }

-- such an area is the engine's bytes and what stands behind them
pub engine_parts : (area : List ℕ) (e : Engine) → EngineIn area e → area ≡ encode e ++ drop area_size area
engine_parts area e a = sym (take-append-drop area_size area) ∙ ap (λ (l : List ℕ). l ++ drop area_size area) a.front
