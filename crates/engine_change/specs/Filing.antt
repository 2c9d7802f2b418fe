-- The place of a reference among those of an area, which stand by sender in byte order and then text: it is put before the first one that does not precede it.
use Rattle.std.specs.Prelude.{◌≡◌, Bool, true, false, List, [], ℕ, ◌+◌, ◌-◌, ◌*◌, ◌≤◌, ◌<◌, length, get_or}
use Rattle.std.proofs.Math.Path.{refl}
use Rattle.std.proofs.Common.{sym, ◌∙◌, arith, inl, inr}
use Rattle.std.proofs.lemmas.Bool.{cases_lt}
use borrow.Author.Tests.{le-leb, lt-leb, eq-eqb, ne_eqb}
use Rattle.rules.specs.Text.{is_text, every, text_before}
use Rattle.rules.specs.Engine.{Reference, precedes, filed}
use Rattle.rules.specs.Area.{number_at, reference_in, reference_record, decode, area_size, many_references_place, references_place, record_size}
use Rattle.laws.specs.Parts.{cut}
use Rattle.laws.specs.Sections.{inserted}
use Rattle.laws.specs.Putting.{PutBehind, put_start, put_on, put_end, put_before}
use Rattle.laws.specs.Standing.{moved}
use Rattle.laws.specs.Writing.{Wrote}
use Rattle.engine_laws.specs.References.{filed_behind, filed_here}
use Rattle.engine_laws.specs.Checked.{until_before, texts_some}
use Rattle.engine_laws.specs.Tests.{precedes_by}
use Rattle.engine.specs.Front.{UpTo, behind}
use Rattle.engine.specs.Header.{HeaderOf}
use Rattle.engine.specs.declared.header.Header.{Header}
use Rattle.engine.specs.Records.{read_nth}
use Rattle.engine.specs.References.{of_bank, reference_at, sender_at, text_at_lem}

module _ (a : List ℕ) (at x bank : ℕ) (cs : List ℕ) (e : x ≡ number_at a at 8) where
  pub sender_low : x < bank → true ≡ precedes (reference_at a at) (of_bank bank cs)
  unfolding precedes
  sender_low h = rw (sender_at a at, ← e, lt-leb bank x h)

  pub sender_high : bank < x → false ≡ precedes (reference_at a at) (of_bank bank cs)
  unfolding precedes
  sender_high h = rw (sender_at a at, ← e, le-leb bank x (omega arith), ne_eqb x bank (λ (z : x ≡ bank). omega arith))

  same_told : bank ≤ x → x ≤ bank → every is_text cs ≡ true → {r : Bool} → r ≡ text_before (cut a (at + 8) (at + 8 + 16)) cs → r ≡ precedes (reference_at a at) (of_bank bank cs)
  unfolding precedes
  same_told h k t g =
      rw (sender_at a at, ← e, le-leb bank x h, eq-eqb x bank (omega arith), text_at_lem a at, ← until_before (cut a (at + 8) (at + 8 + 16)) (texts_some cs t)) g

pub sender_same : (a : List ℕ) (at x bank : ℕ) (s : List ℕ) (i j : ℕ) → x ≡ number_at a at 8 → bank ≤ x → x ≤ bank → i ≤ j → every is_text (cut s i j) ≡ true
    → {r : Bool} → r ≡ text_before (cut a (at + 8) (at + 8 + 16)) (cut s i (i + (j - i))) → r ≡ precedes (reference_at a at) (of_bank bank (cut s i j))
sender_same a at x bank s i j e h k l t g = let f : i + (j - i) ≡ j = omega arith in same_told a at x bank (cut s i j) e h k t (rw f at g)

-- ---- the reference at a place precedes another, or not

module _ (a : List ℕ) (at bank : ℕ) (cs : List ℕ) {x : ℕ} {xs : List ℕ} (e : x ≡ number_at a at 8) (f : xs ≡ cut a (at + 8) (at + 8 + 16)) where
  pub pair_precedes : every is_text cs ≡ true → {r : Bool} → r ≡ precedes_by x xs bank cs → r ≡ precedes (reference_at a at) (of_bank bank cs)
  unfolding precedes precedes_by
  pair_precedes t g = rw (sender_at a at, ← e, text_at_lem a at, ← f, ← until_before xs (texts_some cs t)) g

-- ---- its place

-- i is its place
pub record FiledAt (r : Reference) (rs : List Reference) (i : ℕ) : Type 0 where
  pub within : i ≤ length rs
  pub place : filed r rs ≡ inserted i r rs

-- ---- among the references of an area

-- how many it has
pub record Today (a : List ℕ) (n : ℕ) : Type 0 where
  pub same : n ≡ length (decode a).references
  pub few : n ≤ 64
  pub long : area_size ≤ length a

pub today : (a : List ℕ) (x : Header) → HeaderOf a x → Today a x.references
today a x n = record { same = n.references; few = n.references_few; long = n.long }

reference_read : (a : List ℕ) (i : ℕ) → i < length (decode a).references → get_or (decode a).references i (of_bank 0 []) ≡ reference_at a (references_place + record_size * i)
unfolding decode
reference_read a i h = read_nth reference_in a (number_at a many_references_place 1) references_place i (of_bank 0 []) h

-- i references precede it: it is to be put among the others
module _ (a : List ℕ) (n i : ℕ) (m : Today a n) (r : Reference) (g : PutBehind (filed r) (decode a).references i) where
  pub file_end : n ≤ i → FiledAt r (decode a).references i
  unfolding filed
  file_end h = record { within = g.within; place = put_end g (omega (arith, m.same)) refl }

  module _ (t : Bool) (h : i < n) (e : t ≡ precedes (reference_at a (references_place + record_size * i)) r) where
    listed : i < length (decode a).references
    listed = omega (arith, m.same)

    here : precedes (get_or (decode a).references i (of_bank 0 [])) r ≡ t
    here = rw (reference_read a i listed) (sym e)

    pub file_on : t ≡ true → PutBehind (filed r) (decode a).references (i + 1)
    file_on k = put_on g (of_bank 0 []) listed (filed_behind r _ _ (here ∙ k))

    pub file_here : t ≡ false → FiledAt r (decode a).references i
    file_here k = record { within = g.within; place = put_before g (of_bank 0 []) listed (filed_here r _ _ (here ∙ k)) }

-- as a count of those that precede it
module _ (a : List ℕ) (n : ℕ) (m : Today a n) (r : Reference) {post : ℕ → Bool → Type 0} (t : (i : ℕ) (q : Bool) → i < n → post i q → q ≡ precedes (reference_at a (references_place + record_size * i)) r) {j : ℕ} (u : UpTo post n j) where
  passed : PutBehind (filed r) (decode a).references j
  passed = behind u (PutBehind (filed r) (decode a).references) (put_start (filed r) (decode a).references) (λ i h p g. file_on a n i m r g true h (t i true h p) refl)

  pub place_filed : FiledAt r (decode a).references j
  place_filed = elim (cases_lt j n) [
    | inl h ↦ file_here a n j m r passed false h (t j false h (u.stopped h)) refl
    | inr h ↦ file_end a n j m r passed h
  ]

-- ---- put there: those behind are moved up, and its record is written

pub record Files (n i : ℕ) (r : Reference) (a b : List ℕ) : Type 0 where
  pub between : List ℕ
  pub end : ℕ
  pub up : between ≡ moved (references_place + record_size * i) (references_place + record_size * i + record_size) (record_size * (n - i)) a
  pub wrote : Wrote (reference_record r) (references_place + record_size * i) between end b

pub files : (n i : ℕ) (r : Reference) {a b c : List ℕ} {m : ℕ} → b ≡ moved (references_place + record_size * i) (references_place + record_size * i + record_size) (record_size * (n - i)) a → Wrote (reference_record r) (references_place + record_size * i) b m c → Files n i r a c
files n i r {b = b} {m = m} e w = record { between = b; end = m; up = e; wrote = w }
