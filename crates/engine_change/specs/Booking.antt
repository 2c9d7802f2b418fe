-- A message booked in an area: its position raised or put in its place, its reference put in its place, the header's numbers.
use Rattle.std.specs.Prelude.{◌≡◌, Bool, true, false, not, leb}
use Rattle.std.proofs.Math.Path.{refl, sym}
use Rattle.std.proofs.Common.{ap, ◌∙◌, arith, length-append, leb-true}
use mathlib.Core.List.{List, ◌++◌, map}
use Prim.Native.Nat.{ℕ, ◌+◌, ◌-◌, ◌*◌, ◌≤◌, ◌<◌}
use Rattle.std.proofs.Math.ListN.{length, drop}
use Rattle.std.proofs.lemmas.Bool.{not-false}
use Rattle.rules.specs.Text.{is_some, bytes}
use Rattle.rules.specs.Messages.{Message}
use Rattle.rules.specs.Engine.{Key, Position, Reference, Engine, limit, position_of, booked, filed, within}
use Rattle.rules.specs.Calls.{addition, own_reference, position_after, no_room, over_limit, messages_written, after_message}
use Rattle.rules.specs.Area.{reference_record, key_bytes, position_record, header, encode, decode, holds, area_size, positions_place, positions_room, references_room, texts_of, references_place, record_size}
use Rattle.laws.specs.Digits.{places_length}
use Rattle.laws.specs.Laid.{laid, laid_length}
use Rattle.laws.specs.Writing.{Wrote}
use Rattle.put.specs.declared.parts.Writer.{Writer}
use Rattle.put.specs.Writes.{Writes, writes_then}
use Rattle.laws.specs.Sections.{Each, inserted, replaced, each_map, each_inserted, map_inserted, padded_length}
use Rattle.laws.specs.Standing.{Stands, moved}
use Rattle.laws.specs.Moving.{RoomFor, opens}
use Rattle.laws.specs.Tests.{or_left, or_right}
use Rattle.laws.specs.Order.{ordered_sorted}
use Rattle.engine_laws.specs.Limits.{Limits, limits}
use Rattle.engine_laws.specs.EngineIn.{EngineIn}
use Rattle.engine_laws.specs.Decoded.{decoded}
use Rattle.engine_laws.specs.Sections.{reference_part, position_part, text_part, Of, engine_sections, positions_stand}
use Rattle.engine_laws.specs.Positions.{position_order, booked_few}
use Rattle.engine_laws.specs.Tests.{position_at}
use Rattle.engine_laws.specs.References.{filed_length}
use Rattle.engine.specs.Header.{HeaderOf}
use Rattle.engine.specs.declared.header.Header.{Header}
use Rattle.engine_change.specs.Header.{numbers}
use Rattle.engine_change.specs.Changes.{section, inserted_length, replaced_length, section_replaced, section_inserted, stands_back, stands_other}
use Rattle.engine_change.specs.Next.{position_wide, references_each, positions_length, positions_section, Fits, assembled}
use Rattle.position.specs.declared.Position as P
use Rattle.engine.specs.Positions.{PositionAt}
use Rattle.engine.specs.Places.{position, is_first, PlaceOf}
use Rattle.engine.specs.References.{of_bank}
use Rattle.engine_change.specs.Filing.{FiledAt, Files}
use Rattle.engine.specs.Records.{Many}
use Rattle.engine.specs.Totals.{PositionFound, found}

-- ---- the engine then

-- the engine with a position booked, a reference accepted, and the outgoing number at a count
unfoldable pub booked_with : Engine → Position → Reference → ℕ → Engine
booked_with e q r count = record {
  register = e.register;
  holidays = e.holidays;
  day = e.day;
  positions = booked q e.positions;
  references = filed r e.references;
  count = count;
}

-- with a message's own parts it is the engine after the message
pub booked_after : (e : Engine) (m : Message) → booked_with e (addition m) (own_reference m) (e.count + messages_written e m) ≡ after_message e m
unfolding booked_with after_message
booked_after e m = refl

-- there is room for a reference (13), the position is open or there is room for it (14), and both its totals stay within the limit (15)
pub record CanBook (e : Engine) (q : Position) : Type 0 where
  pub references_few : length e.references < 64
  pub few : length (booked q e.positions) ≤ 32
  pub transferred : (position_of q.key e.positions).transferred + q.transferred ≤ limit
  pub detailed : (position_of q.key e.positions).detailed + q.detailed ≤ limit

-- where none of 13 to 15 holds of a message
pub booking_clear : (e : Engine) (m : Message) → within e ≡ true → length e.references < 64 → no_room e m ≡ false → over_limit e m ≡ false → CanBook e (addition m)
unfolding no_room over_limit position_after
booking_clear e m w t n o =
    let l : Limits e = limits e w in record {
      references_few = t;
      few = booked_few (addition m) (ordered_sorted position_order e.positions l.order) l.few n;
      transferred = leb-true _ _ (not-false _ (or_left _ _ o));
      detailed = leb-true _ _ (not-false _ (or_right (not (leb (position_after e m).transferred limit)) _ o));
    }

-- ---- positions

-- the area has these positions then, k of them
pub record Positions (ps : List Position) (a : List ℕ) (k : ℕ) (b : List ℕ) : Type 0 where
  pub count : k ≡ length ps
  pub bytes : b ≡ laid (position_part ps) positions_place a

pub key_wrote : (k : Key) {w₀ w₁ w₂ w₃ : Writer} → Writes (bytes 8 k.bank) w₀ w₁ → Writes (bytes 3 k.date) w₁ w₂ → Writes (bytes 1 0) w₂ w₃ → Writes (key_bytes k) w₀ w₃
unfolding key_bytes
key_wrote k u v w = writes_then (writes_then u v) w

pub position_wrote : (p : Position) {w₀ w₁ w₂ w₃ : Writer} → Writes (key_bytes p.key) w₀ w₁ → Writes (bytes 6 p.transferred) w₁ w₂ → Writes (bytes 6 p.detailed) w₂ w₃
    → Writes (position_record p) w₀ w₃
unfolding position_record
position_wrote p u v w = writes_then (writes_then u v) w

-- both totals of q can be added to the record at a place
pub record Raises (a : List ℕ) (at : ℕ) (q : Position) : Type 0 where
  pub inside : at + record_size ≤ length a
  pub transferred : (position_at a at).transferred + q.transferred ≤ limit
  pub detailed : (position_at a at).detailed + q.detailed ≤ limit

-- the position of that record raised, its key being that of q
abbrev pub raised_at : List ℕ → ℕ → Position → Position
raised_at a at q = position q.key ((position_at a at).transferred + q.transferred) ((position_at a at).detailed + q.detailed)

module _ (a : List ℕ) (at : ℕ) (q : Position) (x : P.Position) (e : PositionAt a at x) where
  pub raised_small : Raises a at q → (x.transferred + q.transferred ≤ limit) × (x.detailed + q.detailed ≤ limit)
  raised_small r =
      let t : x.transferred ≡ (position_at a at).transferred = ap (λ (y : Position). y.transferred) e.value in
      let d : x.detailed ≡ (position_at a at).detailed = ap (λ (y : Position). y.detailed) e.value in
      (omega (arith, r.transferred), omega (arith, r.detailed))

  pub raised_wrote : {r : ℕ} {b : List ℕ} → Wrote (position_record (position q.key (x.transferred + q.transferred) (x.detailed + q.detailed))) at a r b → Wrote (position_record (raised_at a at q)) at a r b
  raised_wrote w =
      let t : x.transferred ≡ (position_at a at).transferred = ap (λ (y : Position). y.transferred) e.value in
      let d : x.detailed ≡ (position_at a at).detailed = ap (λ (y : Position). y.detailed) e.value in
      rw (t, d) at w

module _ (a : List ℕ) (n i : ℕ) (q : Position) (m : Many a n) (p : PlaceOf q.key (decode a).positions i) (at : ℕ) (place : at ≡ positions_place + record_size * i) (x : Bool) (f : x ≡ is_first q.key (drop i (decode a).positions)) where
  -- an open position is raised
  module _ (k : x ≡ true) where
    here : PositionFound a n i q.key
    here = found a n i q.key m p (sym f ∙ k)

    standing : position_at a at ≡ position_of q.key (decode a).positions
    standing = rw place (sym here.is)

    pub raise_fits : CanBook (decode a) q → Raises a at q
    raise_fits g = record { inside = omega (arith, place, here.inside, m.few, m.long); transferred = rw standing g.transferred; detailed = rw standing g.detailed }

    pub raise_done : {r : ℕ} {b : List ℕ} → is_some (holds a) ≡ true → Wrote (position_record (raised_at a at q)) at a r b → Positions (booked q (decode a).positions) a n b
    unfolding position_part
    raise_done {b = b} h w =
        let ps : List Position = (decode a).positions in
        let y : Position = raised_at a (positions_place + record_size * i) q in
        let l : i < length ps = omega (arith, here.inside, m.same) in
        let e : booked q ps ≡ replaced i y ps = p.raised q.transferred q.detailed (sym f ∙ k) ∙ rw here.is in
        let c : b ≡ laid (section positions_room position_record (replaced i y ps)) positions_place a =
        section_replaced position_record positions_room ps (each_map position_record position_wide ps) (omega (arith, m.same, m.few)) (positions_section (decoded a h)) i y (position_wide y) l (rw place at w) in
        record { count = m.same ∙ rw e (sym (replaced_length i y ps l)); bytes = rw e c }

  -- a missing one is put in its place
  module _ (k : x ≡ false) where
    after_place : booked q (decode a).positions ≡ inserted i q (decode a).positions
    after_place = p.opened q.transferred q.detailed (sym f ∙ k)

    grown : length (booked q (decode a).positions) ≡ n + 1
    grown = rw after_place (inserted_length i q (decode a).positions p.within ∙ omega (arith, m.same))

    pub insert_fits : CanBook (decode a) q → RoomFor positions_place record_size n i (length a)
    insert_fits g = opens positions_place record_size n i (length a) (omega (arith, p.within, m.same)) (omega (arith, g.few, grown, m.long))

    pub insert_done : {r : ℕ} {b c : List ℕ} → is_some (holds a) ≡ true → CanBook (decode a) q
        → b ≡ moved (positions_place + record_size * i) (positions_place + record_size * i + record_size) (record_size * (n - i)) a → Wrote (position_record q) at b r c → Positions (booked q (decode a).positions) a (n + 1) c
    unfolding position_part
    insert_done {b = b} {c = c} h g u w =
        let ps : List Position = (decode a).positions in
        let v : b ≡ moved (positions_place + record_size * i) (positions_place + record_size * i + record_size) (record_size * (length ps - i)) a = rw m.same at u in
        let e : c ≡ laid (section positions_room position_record (inserted i q ps)) positions_place a =
        section_inserted position_record positions_room ps (each_map position_record position_wide ps) (omega (arith, m.same, m.few)) (positions_section (decoded a h)) i q (position_wide q) p.within (omega (arith, g.few, grown, m.same)) v (rw place at w) in
        record { count = sym grown; bytes = rw after_place e }

-- ---- the message

pub reference_wide : (r : Reference) → length r.text ≤ 16 → length (reference_record r) ≡ record_size
unfolding reference_record
reference_wide r h = rw (length-append, places_length, padded_length 16 r.text h)

module _ (a : List ℕ) (x : Header) (q : Position) (bank : ℕ) (cs : List ℕ) (count : ℕ) (h : is_some (holds a) ≡ true) (n : HeaderOf a x) (g : CanBook (decode a) q) where
  module _ {i : ℕ} (f : FiledAt (of_bank bank cs) (decode a).references i) {k : ℕ} {b : List ℕ} (p : Positions (booked q (decode a).positions) a k b) where
    -- there is room for the reference
    pub file_fits : RoomFor references_place record_size x.references i (length b)
    file_fits =
        let l : length b ≡ length a = ap length p.bytes ∙ laid_length (position_part (booked q (decode a).positions)) positions_place a in
        opens references_place record_size x.references i (length b) (omega (arith, f.within, n.references)) (omega (arith, g.references_few, n.references, n.long, l))

    pub book_done : {z : ℕ} {c d : List ℕ} → length cs ≤ 16 → Files x.references i (of_bank bank cs) b c
        → Wrote (numbers x.day count k (x.references + 1)) 0 c z d → d ≡ encode (booked_with (decode a) q (of_bank bank cs) count) ++ drop area_size a
    unfolding booked_with texts_of reference_part
    book_done {z} {c} {d} s u w =
        let r : Reference = of_bank bank cs in
        let e : Engine = decode a in
        let rs : List Reference = e.references in
        let H : EngineIn a e = decoded a h in
        let S : Of e (drop area_size a) a = engine_sections a e H in
        let P' : List ℕ = position_part (booked q e.positions) in
        let Q : List ℕ = text_part (texts_of e) ++ drop area_size a in
        let lP : length P' ≡ positions_room = positions_length (booked q e.positions) g.few in
        let y : Stands (header e ++ reference_part rs) P' Q positions_place b = rw (← p.bytes) at (stands_other P' (lP ∙ sym S.positions) (positions_stand S)) in
        let o : Stands (header e) (section references_room reference_record rs) (P' ++ Q) references_place b = stands_back (header e) (reference_part rs) P' Q S.head y in
        let up : u.between ≡ moved (references_place + record_size * i) (references_place + record_size * i + record_size) (record_size * (length rs - i)) b = rw n.references at u.up in
        let v : c ≡ laid (section references_room reference_record (inserted i r rs)) references_place b =
        section_inserted reference_record references_room rs (references_each H) (omega (arith, g.references_few)) o i r (reference_wide r s) f.within (omega (arith, g.references_few)) up u.wrote in
        let l : length (filed r rs) ≡ length rs + 1 = filed_length r rs in
        let wide : Each record_size (map reference_record (filed r rs)) = rw (f.place, map_inserted) (each_inserted i (reference_record r) (references_each H) (reference_wide r s)) in
        let fits : Fits (booked_with e q r count) = record { few = g.few; references_few = omega (arith, g.references_few, l); wide = wide } in
        assembled (booked_with e q r count) H refl fits p.bytes (rw f.place v) (rw (n.day, n.references, p.count, ← l) at w)
