-- Number 10: an area holds an engine exactly if its bytes pass the tests of the layout.
use Rattle.std.specs.Prelude.{◌≡◌, Bool, ◌&&◌, leb}
use Rattle.std.proofs.Math.Path.{refl, sym, ap}
use Rattle.std.proofs.Common.{◌∙◌, arith, lit≤, length-append, length-drop, take-add, length-take-le}
use Rattle.std.proofs.Math.Bool.{true}
use mathlib.Core.List.{List, [], ◌++◌, map, append_assoc}
use Rattle.std.proofs.Math.Option.{some}
use Prim.Native.Nat.{ℕ, zero, suc, ◌+◌, ◌-◌, ◌*◌, ◌≤◌}
use Rattle.std.proofs.Math.ListN.{length, take, drop}
use Rattle.std.proofs.lemmas.List.{length-map}
use borrow.Author.Tests.{leb-true, le-leb}
use Rattle.rules.specs.Text.{every, equal, big_endian, bytes, is_some, given}
use Rattle.rules.specs.Dates.{exists}
use Rattle.rules.specs.BankingDays.{holidays}
use Rattle.rules.specs.Register.{register}
use Rattle.rules.specs.Engine.{Engine, within}
use Rattle.rules.specs.Area.{padded, joined, texts_of, lengths_of, mark, header, encode, number_at, length_at, text_place, text_at, reference_in, position_in, reference_record, position_record, records, records_of, decode, holds, area_size, currency_place, lengths_place, lengths_room, references_place, positions_place, positions_room, references_room, texts_place, texts_room, day_place, count_place, many_positions_place, many_references_place, record_size}
use Rattle.laws.specs.Digits.{places_length}
use Rattle.laws.specs.Numbers.{Within, bytes_within}
use Rattle.laws.specs.Parts.{cut}
use Rattle.laws.specs.Standing.{Stands, stands_records}
use Rattle.laws.specs.Tests.{and_left, and_right, and_both, either}
use Rattle.laws.specs.Equal.{equal_true, equal_same}
use Rattle.laws.specs.All.{All}
use Rattle.rule_laws.specs.Options.{is_some_is, There, there}
use Rattle.engine_laws.specs.Bytes.{Bytes}
use Rattle.rule_laws.specs.Registers.{register_length, longest_register}
use Rattle.rule_laws.specs.Holidays.{list_length, longest_list}
use Rattle.engine_laws.specs.Limits.{Limits, limits, limits_within}
use Rattle.engine_laws.specs.Layout.{WrittenBack, part_at, written_length, written_each, written_back}
use Rattle.engine_laws.specs.Several.{Texts, stands_zeros, zeros_stand, text_size, lengths_behind, texts_behind_lem, texts_before, lengths_same, texts_same}
use Rattle.engine_laws.specs.EngineIn.{EngineIn, engine_in, positions_kept, references_kept, texts_count}
use Rattle.engine_laws.specs.Positions.{Good, all_good, good_all}
use Rattle.engine_laws.specs.Sections.{Of, reference_part, position_part, text_part, engine_sections, references_stand, positions_stand, lengths_apart, engine_texts}
use Rattle.engine_laws.specs.Walk.{walk, always}
use Rattle.engine_laws.specs.Tests.{is_zero, counts_test, header_test, reference_test, filed_test, references_test, position_fits, position_test, order_test, positions_test, area_test, text_count, text_test, is_register, is_list, register_test, list_test, texts_test}
use Rattle.engine_laws.specs.Records.{cut_is, zero_bytes, zeros_zero, bytes_zero, bytes_stand, take_part}
use Rattle.engine_laws.specs.Checked.{each, Rec, Checks, records_bytes, reads_length, each_good, each_same, each_test, position_checks, positions_walk, order_walk, reference_fits, reference_checks, references_walk, whole_all, Filed, filed_all, filed_walk}
use Rattle.engine_laws.specs.References.{Form, all_forms, forms_all}

-- ---- the header

-- its tests in the words of the definitions
header_form : (a : List ℕ)
    → header_test a
    ≡ (equal (take 2 a) mark
    && (exists (number_at a day_place 3)
    && ((leb (number_at a many_references_place 1) 64 && (leb (number_at a many_positions_place 1) 32 && leb (number_at a count_place 2) (32 + 18 * number_at a many_references_place 1)))
    && (every is_zero (take 1 (drop currency_place a))
    && every is_zero (cut a (lengths_place + 2 * text_count) references_place)))))
unfolding header_test counts_test
header_form a =
    rw (cut_is a 0 2, cut_is a 2 3, cut_is a 5 2, cut_is a 7 1, cut_is a 8 1, cut_is a currency_place 1)

-- its parts, with any two bytes m for the mark
module _ (m : List ℕ) (two : length m ≡ 2) (d c n k o : ℕ) (rest : List ℕ) where
  whole : List ℕ
  whole = m ++ bytes 3 d ++ bytes 2 c ++ bytes 1 n ++ bytes 1 k ++ bytes 1 o ++ rest

  mark_part : take 2 whole ≡ m
  unfolding whole
  mark_part = part_at whole [] m (bytes 3 d ++ (bytes 2 c ++ (bytes 1 n ++ (bytes 1 k ++ (bytes 1 o ++ rest))))) 0 2 refl two (simp append_assoc)

  currency_part : take 1 (drop currency_place whole) ≡ bytes 1 o
  unfolding whole
  currency_part =
      part_at whole (m ++ bytes 3 d ++ bytes 2 c ++ bytes 1 n ++ bytes 1 k) (bytes 1 o) rest currency_place 1
      (simp (length-append, two, places_length)) (places_length 256 0 1 o) (simp append_assoc)

-- ---- sections, in either direction

-- records one behind the other are the bytes
joined_records : (n : ℕ) (cs : List ℕ) → joined (records n cs) ≡ take (record_size * n) cs
unfolding joined records_of
joined_records zero cs = refl
joined_records (suc n) cs = let e : record_size * suc n ≡ record_size + record_size * n = omega arith in rw (joined_records n (drop record_size cs), e, take-add record_size (record_size * n) cs)

-- ---- an area that holds an engine passes

-- n records at base are those of xs, pass their test, and the room behind them is zero
record SectionPasses {A : Type 0} (f : List ℕ → Bool) (write : A → List ℕ) (n base room : ℕ) (a : List ℕ) (xs : List A) : Type 0 where
  stand : records n (drop base a) ≡ map write xs
  pass : each f (records n (drop base a)) ≡ true
  zero : every is_zero (cut a (base + record_size * n) (base + room)) ≡ true

module _ {A : Type 0} (f : List ℕ → Bool) (write : A → List ℕ) (reads : List ℕ → A) (P : A → Type 0) (c : Checks f write reads P) {p q a : List ℕ} {base : ℕ} (room : ℕ) (xs : List A) (n : ℕ) (b : Bytes a) (t : Stands p (padded room (joined (map write xs))) q base a) (k : All (WrittenBack write reads) xs) (m : n ≡ length xs) (fits : record_size * length xs ≤ room) (long : base + room ≤ length a) where
  section_records : records n (drop base a) ≡ map write xs
  section_records = rw m (rw length-map at (stands_records room t (written_each write reads k)))

  section_passes : All P xs → SectionPasses f write n base room a xs
  section_passes g =
      let e : map reads (records n (drop base a)) ≡ xs = rw section_records (written_back write reads k) in
      let j : length (joined (map write xs)) ≡ record_size * n = written_length write reads k ∙ rw m in record {
        stand = section_records;
        pass = each_test f write reads P c (records_bytes a b n base (omega arith)) (rw e g) (rw e (sym section_records));
        zero = rw j at (stands_zeros room (joined (map write xs)) t (omega arith));
      }

module _ (a : List ℕ) (b : Bytes a) (e : Engine) (h : EngineIn a e) where
  l : Limits e
  l = limits e h.good

  s : Of e (drop area_size a) a
  s = engine_sections a e h

  day_at : number_at a day_place 3 ≡ e.day
  unfolding decode
  day_at = ap (λ (x : Engine). x.day) h.read

  count_at_lem : number_at a count_place 2 ≡ e.count
  unfolding decode
  count_at_lem = ap (λ (x : Engine). x.count) h.read

  positions_at : map position_in (records (number_at a many_positions_place 1) (drop positions_place a)) ≡ e.positions
  unfolding decode
  positions_at = ap (λ (x : Engine). x.positions) h.read

  references_at_lem : map reference_in (records (number_at a many_references_place 1) (drop references_place a)) ≡ e.references
  unfolding decode
  references_at_lem = ap (λ (x : Engine). x.references) h.read

  register_at : text_at a 0 ≡ e.register
  unfolding decode
  register_at = ap (λ (x : Engine). x.register) h.read

  list_at : text_at a 1 ≡ e.holidays
  unfolding decode
  list_at = ap (λ (x : Engine). x.holidays) h.read

  x : Texts (texts_of e) a
  x = engine_texts a e h

  many_positions : number_at a many_positions_place 1 ≡ length e.positions
  many_positions = sym (reads_length position_in (number_at a many_positions_place 1) (drop positions_place a)) ∙ ap length positions_at

  many_references : number_at a many_references_place 1 ≡ length e.references
  many_references = sym (reads_length reference_in (number_at a many_references_place 1) (drop references_place a)) ∙ ap length references_at_lem

  header_passes : header_test a ≡ true
  unfolding header whole
  header_passes =
      let rest : List ℕ = lengths_of (texts_of e) ++ (reference_part e.references ++ (position_part e.positions ++ (text_part (texts_of e) ++ drop area_size a))) in
      let n : List ℕ = mark ++ bytes 3 e.day ++ bytes 2 e.count ++ bytes 1 (length e.positions) ++ bytes 1 (length e.references) in
      let f : a ≡ whole mark refl e.day e.count (length e.positions) (length e.references) 0 rest = s.whole ∙ lengths_apart n (bytes 1 0) (lengths_of (texts_of e)) _ in
      let m : take 2 a ≡ mark = ap (take 2) f ∙ mark_part mark refl e.day e.count (length e.positions) (length e.references) 0 rest in
      let o : take 1 (drop currency_place a) ≡ bytes 1 0 = ap (λ (x : List ℕ). take 1 (drop currency_place x)) f ∙ currency_part mark refl e.day e.count (length e.positions) (length e.references) 0 rest in
      let z : every is_zero (cut a (lengths_place + 2 * text_count) references_place) ≡ true = rw (texts_count e) at (lengths_behind x) in
      header_form a ∙ rw (m, equal_same mark, day_at, l.day, count_at_lem, many_references, many_positions, le-leb _ _ l.numbered, le-leb _ _ l.few, le-leb _ _ l.references_few, o, bytes_zero 1, zeros_zero 1) z

  references_pass : references_test a (big_endian (cut a many_references_place currency_place)) ≡ true
  unfolding references_test reference_part
  references_pass =
      let n : big_endian (cut a many_references_place currency_place) ≡ number_at a many_references_place 1 = ap big_endian (cut_is a 8 1) in
      let few : record_size * length e.references ≤ references_room = omega (arith, l.references_few) in
      let c : SectionPasses reference_fits reference_record (number_at a many_references_place 1) references_place references_room a e.references =
      section_passes reference_fits reference_record reference_in Form reference_checks references_room e.references (number_at a many_references_place 1) b (references_stand s) (references_kept e.references l.forms) many_references few (omega (arith, h.long)) (all_forms e.references l.forms) in
      let r : All Rec (records (number_at a many_references_place 1) (drop references_place a)) = records_bytes a b (number_at a many_references_place 1) references_place (omega (arith, many_references, h.long)) in
      let w : All Filed (records (number_at a many_references_place 1) (drop references_place a)) = filed_all r (whole_all r (rw references_at_lem (sym c.stand))) in
      rw (n, references_walk, c.pass, filed_walk a (number_at a many_references_place 1) references_place w, references_at_lem, l.filed) c.zero

  positions_pass : positions_test (big_endian (cut a day_place count_place)) a (big_endian (cut a many_positions_place many_references_place)) ≡ true
  unfolding positions_test position_part
  positions_pass =
      let n : big_endian (cut a many_positions_place many_references_place) ≡ number_at a many_positions_place 1 = ap big_endian (cut_is a 7 1) in
      let d : big_endian (cut a day_place count_place) ≡ e.day = ap big_endian (cut_is a 2 3) ∙ day_at in
      let few : record_size * length e.positions ≤ positions_room = omega (arith, l.few) in
      let c : SectionPasses (position_fits e.day) position_record (number_at a many_positions_place 1) positions_place positions_room a e.positions =
      section_passes (position_fits e.day) position_record position_in (Good e.day) (position_checks e.day) positions_room e.positions (number_at a many_positions_place 1) b (positions_stand s) (positions_kept e.day e.positions l.good) many_positions few (omega (arith, h.long)) (all_good e.day e.positions l.good) in
      let r : All Rec (records (number_at a many_positions_place 1) (drop positions_place a)) = records_bytes a b (number_at a many_positions_place 1) positions_place (omega (arith, many_positions, l.few, h.long)) in
      rw (n, d, positions_walk, c.pass, order_walk a (number_at a many_positions_place 1) positions_place r, positions_at, l.order) c.zero

  register_passes : register_test a 0 ≡ true
  unfolding text_test is_register
  register_passes =
      let n : length_at a 0 ≡ length e.register = text_size x 0 (omega (arith, texts_count e)) ∙ ap length register_at in
      rw (n, le-leb _ _ (register_length e.register l.register), register_at) l.register

  list_passes : list_test a 1 ≡ true
  unfolding text_test is_list
  list_passes =
      let n : length_at a 1 ≡ length e.holidays = text_size x 1 (omega (arith, texts_count e)) ∙ ap length list_at in
      rw (n, le-leb _ _ (list_length e.holidays l.holidays), list_at) l.holidays

  texts_pass : texts_test a ≡ true
  unfolding texts_test
  texts_pass = rw (register_passes, list_passes) (rw (texts_count e) at (texts_behind_lem x))

  pub engine_passes : area_test a ≡ true
  unfolding area_test
  engine_passes = rw (le-leb area_size (length a) h.long, header_passes, references_pass, positions_pass) texts_pass

-- ---- an area that passes holds an engine

module _ {A : Type 0} (f : List ℕ → Bool) (write : A → List ℕ) (reads : List ℕ → A) (P : A → Type 0) (c : Checks f write reads P) (a : List ℕ) (b : Bytes a) (base room n : ℕ) (few : record_size * n ≤ room) (long : base + room ≤ length a) (g : each f (records n (drop base a)) ≡ true) where
  section_good : All P (map reads (records n (drop base a)))
  section_good = each_good f write reads P c (records_bytes a b n base (omega arith)) g

  section_same : every is_zero (cut a (base + record_size * n) (base + room)) ≡ true → padded room (joined (map write (map reads (records n (drop base a))))) ≡ take room (drop base a)
  section_same z =
      let e : map write (map reads (records n (drop base a))) ≡ records n (drop base a) = each_same f write reads P c (records_bytes a b n base (omega arith)) g in
      rw (e, joined_records n (drop base a)) (zeros_stand a base (record_size * n) room few long z)

area_form : (a : List ℕ) → area_test a ≡ (leb area_size (length a) && (header_test a && (references_test a (number_at a many_references_place 1) && (positions_test (number_at a day_place 3) a (number_at a many_positions_place 1) && texts_test a))))
unfolding area_test
area_form a = rw (cut_is a 8 1, cut_is a 2 3, cut_is a 7 1)

-- the header in its parts
head_parts : (a : List ℕ) → (take 2 a ++ take 3 (drop 2 a) ++ take 2 (drop 5 a) ++ take 1 (drop 7 a) ++ take 1 (drop 8 a)) ++ (take 1 (drop currency_place a) ++ take lengths_room (drop lengths_place a)) ≡ take references_place a
head_parts a = rw (take_part a lengths_place lengths_room, take_part a currency_place 1, take_part a 8 1, take_part a 7 1, take_part a 5 2, take_part a 2 3) (simp append_assoc)

-- the tests, one by one
record TestsPassed (a : List ℕ) : Type 0 where
  long : area_size ≤ length a
  mark : take 2 a ≡ mark
  day : exists (number_at a day_place 3) ≡ true
  count : number_at a count_place 2 ≤ 32 + 18 * number_at a many_references_place 1
  few : number_at a many_positions_place 1 ≤ 32
  references_few : number_at a many_references_place 1 ≤ 64
  currency : every is_zero (take 1 (drop currency_place a)) ≡ true
  lengths : every is_zero (cut a (lengths_place + 2 * text_count) references_place) ≡ true
  references : walk (always (reference_test a)) (number_at a many_references_place 1) references_place ≡ true
  filed : walk (always (filed_test a)) (number_at a many_references_place 1 - 1) references_place ≡ true
  behind_references : every is_zero (cut a (references_place + record_size * number_at a many_references_place 1) positions_place) ≡ true
  positions : walk (always (position_test (number_at a day_place 3) a)) (number_at a many_positions_place 1) positions_place ≡ true
  order : walk (always (order_test a)) (number_at a many_positions_place 1 - 1) positions_place ≡ true
  behind_positions : every is_zero (cut a (positions_place + record_size * number_at a many_positions_place 1) texts_place) ≡ true
  short : length_at a 0 ≤ longest_register
  register : is_some (register (text_at a 0)) ≡ true
  list_short : length_at a 1 ≤ longest_list
  holidays : is_some (holidays (text_at a 1)) ≡ true
  behind_texts : every is_zero (cut a (text_place a text_count) area_size) ≡ true

passed : (a : List ℕ) → area_test a ≡ true → TestsPassed a
unfolding references_test positions_test text_test is_register is_list texts_test
passed a t =
    let k : _ ≡ true = sym (area_form a) ∙ t in
    let h : header_test a ≡ true = search (and_left, and_right) in
    let j : _ ≡ true = sym (header_form a) ∙ h in
    let r : references_test a (number_at a many_references_place 1) ≡ true = search (and_left, and_right) in
    let p : positions_test (number_at a day_place 3) a (number_at a many_positions_place 1) ≡ true = search (and_left, and_right) in
    let x : texts_test a ≡ true = search (and_left, and_right) depth 6 in record {
      long = leb-true _ _ (and_left _ _ k);
      mark = equal_true _ _ (and_left _ _ j);
      day = search (and_left, and_right) depth 9;
      count = leb-true _ _ (search (and_left, and_right) depth 9);
      few = leb-true _ _ (search (and_left, and_right) depth 9);
      references_few = leb-true _ _ (search (and_left, and_right) depth 9);
      currency = search (and_left, and_right) depth 9;
      lengths = search (and_left, and_right) depth 9;
      references = and_left _ _ r;
      filed = search (and_left, and_right) depth 9;
      behind_references = search (and_left, and_right) depth 9;
      positions = and_left _ _ p;
      order = search (and_left, and_right) depth 9;
      behind_positions = search (and_left, and_right) depth 9;
      short = leb-true _ _ (and_left _ _ (and_left _ _ x));
      register = search (and_left, and_right) depth 9;
      list_short = leb-true _ _ (search (and_left, and_right) depth 9);
      holidays = search (and_left, and_right) depth 9;
      behind_texts = search (and_left, and_right) depth 9;
    }

module _ (a : List ℕ) (b : Bytes a) (t : TestsPassed a) where
  rows : each reference_fits (records (number_at a many_references_place 1) (drop references_place a)) ≡ true
  rows = sym (references_walk a (number_at a many_references_place 1) references_place) ∙ t.references

  entries : each (position_fits (number_at a day_place 3)) (records (number_at a many_positions_place 1) (drop positions_place a)) ≡ true
  entries = sym (positions_walk (number_at a day_place 3) a (number_at a many_positions_place 1) positions_place) ∙ t.positions

  references_good : All Form (map reference_in (records (number_at a many_references_place 1) (drop references_place a)))
  references_good = section_good reference_fits reference_record reference_in Form reference_checks a b references_place references_room (number_at a many_references_place 1) (omega (arith, t.references_few)) (omega (arith, t.long)) rows

  positions_good : All (Good (number_at a day_place 3)) (map position_in (records (number_at a many_positions_place 1) (drop positions_place a)))
  positions_good = section_good (position_fits (number_at a day_place 3)) position_record position_in (Good (number_at a day_place 3)) (position_checks (number_at a day_place 3)) a b positions_place positions_room (number_at a many_positions_place 1) (omega (arith, t.few)) (omega (arith, t.long)) entries

  references_filed : All Filed (records (number_at a many_references_place 1) (drop references_place a))
  references_filed =
      let r : All Rec (records (number_at a many_references_place 1) (drop references_place a)) = records_bytes a b (number_at a many_references_place 1) references_place (omega (arith, t.references_few, t.long)) in
      filed_all r (whole_all r (each_same reference_fits reference_record reference_in Form reference_checks r rows))

  -- the texts that are read are those of the area, and they have room
  texts_are : texts_of (decode a) ≡ texts_before a text_count
  unfolding texts_of decode texts_before
  texts_are = refl

  texts_room_lem : text_place a text_count ≤ area_size
  unfolding text_place
  texts_room_lem = omega (arith, t.short, t.list_short)

  decoded_within : within (decode a) ≡ true
  unfolding decode
  decoded_within = limits_within (decode a) record {
    register = t.register;
    holidays = t.holidays;
    day = t.day;
    few = rw reads_length t.few;
    good = good_all positions_good;
    order = sym (order_walk a (number_at a many_positions_place 1) positions_place (records_bytes a b (number_at a many_positions_place 1) positions_place (omega (arith, t.few, t.long)))) ∙ t.order;
    references_few = rw reads_length t.references_few;
    forms = forms_all references_good;
    filed = sym (filed_walk a (number_at a many_references_place 1) references_place references_filed) ∙ t.filed;
    numbered = rw reads_length t.count;
  }

  -- the header as it stands
  headed : (m : List ℕ) → take 2 a ≡ m
      → (m ++ bytes 3 (number_at a day_place 3) ++ bytes 2 (number_at a count_place 2) ++ bytes 1 (number_at a many_positions_place 1) ++ bytes 1 (number_at a many_references_place 1)) ++ (bytes 1 0 ++ lengths_of (texts_before a text_count)) ≡ take references_place a
  headed m h =
      let w : Within 256 0 a = bytes_within a b in
      let n : (i k : ℕ) → i + k ≤ 16 → i + k ≤ length a = λ i k l. omega (arith, t.long) in
      let o : take 1 (drop currency_place a) ≡ bytes 1 0 = zero_bytes _ 1 (length-take-le 1 (drop currency_place a) (rw length-drop (omega (arith, t.long)))) t.currency ∙ sym (bytes_zero 1) in
      rw (← h, bytes_stand a 2 3 w (n 2 3 (lit≤ tt)), bytes_stand a 5 2 w (n 5 2 (lit≤ tt)), bytes_stand a 7 1 w (n 7 1 (lit≤ tt)), bytes_stand a 8 1 w (n 8 1 (lit≤ tt)), ← o, lengths_same a text_count t.long texts_room_lem w (omega arith) t.lengths)
      (head_parts a)

  header_same : header (decode a) ≡ take references_place a
  unfolding header decode
  header_same =
      let p : length (map position_in (records (number_at a many_positions_place 1) (drop positions_place a))) ≡ number_at a many_positions_place 1 = reads_length position_in (number_at a many_positions_place 1) (drop positions_place a) in
      let r : length (map reference_in (records (number_at a many_references_place 1) (drop references_place a))) ≡ number_at a many_references_place 1 = reads_length reference_in (number_at a many_references_place 1) (drop references_place a) in
      rw (p, r, texts_are) (headed mark t.mark)

  reference_same : reference_part (decode a).references ≡ take references_room (drop references_place a)
  unfolding reference_part decode
  reference_same = section_same reference_fits reference_record reference_in Form reference_checks a b references_place references_room (number_at a many_references_place 1) (omega (arith, t.references_few)) (omega (arith, t.long)) rows t.behind_references

  position_same : position_part (decode a).positions ≡ take positions_room (drop positions_place a)
  unfolding position_part decode
  position_same = section_same (position_fits (number_at a day_place 3)) position_record position_in (Good (number_at a day_place 3)) (position_checks (number_at a day_place 3)) a b positions_place positions_room (number_at a many_positions_place 1) (omega (arith, t.few)) (omega (arith, t.long)) entries t.behind_positions

  text_same : text_part (texts_of (decode a)) ≡ take texts_room (drop texts_place a)
  unfolding text_part
  text_same = rw texts_are (texts_same a text_count t.long texts_room_lem t.behind_texts)

-- the four sections are the first 6,144 bytes
area_parts : (a : List ℕ) → take references_place a ++ take references_room (drop references_place a) ++ take positions_room (drop positions_place a) ++ take texts_room (drop texts_place a) ≡ take area_size a
area_parts a =
    ap (λ (x : List ℕ). x ++ take texts_room (drop texts_place a)) (ap (λ (x : List ℕ). x ++ take positions_room (drop positions_place a)) (sym (take_part a references_place references_room)) ∙ sym (take_part a positions_place positions_room))
    ∙ sym (take_part a texts_place texts_room)

encoded : (e : Engine) (h r p t : List ℕ) → header e ≡ h → reference_part e.references ≡ r → position_part e.positions ≡ p → text_part (texts_of e) ≡ t → encode e ≡ h ++ r ++ p ++ t
unfolding encode reference_part position_part text_part
encoded e h r p t a b c d = rw (a, b, c, d)

pub passes_holds : (a : List ℕ) → Bytes a → area_test a ≡ true → holds a ≡ some (decode a)
unfolding holds
passes_holds a b h =
    let t : TestsPassed a = passed a h in
    let s : encode (decode a) ≡ take area_size a = encoded (decode a) _ _ _ _ (header_same a b t) (reference_same a b t) (position_same a b t) (text_same a b t) ∙ area_parts a in
    let q : equal (encode (decode a)) (take area_size a) ≡ true = ap (λ (x : List ℕ). equal x (take area_size a)) s ∙ equal_same (take area_size a) in
    let p : (leb area_size (length a) && within (decode a) && equal (encode (decode a)) (take area_size a)) ≡ true = and_both _ _ (and_both _ _ (le-leb area_size (length a) t.long) (decoded_within a b t)) q in
    ap (λ (x : Bool). given x (decode a)) p

-- number 10
pub holds_tests : (a : List ℕ) → Bytes a → is_some (holds a) ≡ area_test a
holds_tests a b =
    either _ _
    (λ h. let x : There (holds a) = there (holds a) h in engine_passes a b x.value (engine_in a x.value x.is))
    (λ h. is_some_is (holds a) (decode a) (passes_holds a b h))
