-- The parts of an MT199, each with the next 14 of the listed details.
use Rattle.std.specs.Prelude.{◌≡◌, List, ◌++◌, ℕ, suc, ◌+◌, ◌-◌, ◌/◌, ◌≤◌, ◌<◌, length, take, drop}
use Rattle.std.specs.List.{count_by}
use Rattle.std.proofs.Common.{ap, ◌∙◌, arith, eq-eqb, ne_eqb}
use Rattle.rules.specs.Text.{ascii}
use Rattle.rules.specs.Engine.{Position}
use Rattle.rules.specs.Verdict.{is_listed199}
use Rattle.rules.specs.Written.{first_line, field, reference, linked, position79, closed79, mt199, mt199s, parts_of}
use Rattle.put.specs.declared.parts.Writer.{Writer}
use Rattle.put.specs.Writes.{Writes, Unwritten, unwritten_turn, unwritten_none, writes_4}
use Rattle.verdict.specs.declared.detail.Judged.{Judged}
use Rattle.detail_lines.specs.Chosen.{tells, chosen_from}
use Rattle.detail_lines.specs.Listed.{RowsPut}
use Rattle.outgoing_number.specs.declared.Outgoing.{Outgoing}
use Rattle.outgoing_number.specs.declared.Reference.{Reference}
use Rattle.outgoing_number.specs.Issue.{Steps}

-- ---- how many

-- so many details are listed
abbrev pub listed_of : List Judged → ℕ
listed_of kept = count_by (tells is_listed199) kept

-- r parts for so many
pub record PartsOf (listed r : ℕ) : Type 0 where
  pub value : r ≡ parts_of listed
  pub few : r ≤ 2

pub parts_one : (listed : ℕ) → listed ≡ 0 → PartsOf listed 1
unfolding parts_of
parts_one listed e = record { value = rw (eq-eqb listed 0 e); few = omega arith }

pub parts_more : (listed : ℕ) → (listed ≡ 0 → ⊥) → listed ≤ 16 → PartsOf listed ((listed + 13) / 14)
unfolding parts_of
parts_more listed n h = record { value = rw (ne_eqb listed 0 n); few = omega arith }

-- ---- one part, with the next 14 of the listed details

-- it was written by the reference r, from detail i on, and the walk goes on at detail i'
pub record PartPut (r : Reference) (part parts : ℕ) (p : Position) (s : List ℕ) (kept : List Judged) (i : ℕ) (old : Writer) (i' : ℕ) (new : Writer) : Type 0 where
  pub writes : Writes (mt199 r.day (r.number - part) p part parts (take 14 (chosen_from is_listed199 s kept i))) old new
  pub within : i' ≤ length kept
  pub skipped : chosen_from is_listed199 s kept i' ≡ drop 14 (chosen_from is_listed199 s kept i)

module _ (r : Reference) (part parts : ℕ) (p : Position) (s : List ℕ) (kept : List Judged) (i : ℕ) {i' : ℕ} {w₀ w₁ w₂ w₃ w₄ : Writer} (h : 1 ≤ part) (k : part ≤ r.number) where
  pub part_wrote : Writes (first_line (ascii "199") p.key.bank ++ field (ascii ":20:") (reference r.day r.number) ++ linked r.day (r.number - (part - 1) - 1) part) w₀ w₁ → Writes (position79 p.key.date p.transferred p.detailed) w₁ w₂
      → RowsPut s kept i 14 w₂ i' w₃ → Writes (closed79 part parts) w₃ w₄ → PartPut r part parts p s kept i w₀ i' w₄
  unfolding mt199
  part_wrote v w x y =
      let e : r.number - (part - 1) - 1 ≡ r.number - part = omega arith in
      let f : r.number - part + part ≡ r.number = omega arith in
      record { writes = rw f (writes_4 (rw e at v) w x.writes y); within = x.within; skipped = x.skipped }

-- ---- all of them

-- they were written, the outgoing number going from o to o'
pub record PartsPut (o o' : Outgoing) (parts : ℕ) (p : Position) (s : List ℕ) (kept : List Judged) (old new : Writer) : Type 0 where
  pub writes : Writes (mt199s parts o.day o.count p 1 parts (chosen_from is_listed199 s kept 0)) old new
  pub day : o'.day ≡ o.day
  pub count : o'.count ≡ o.count + parts

-- k are written, the outgoing number being o now, and the walk goes on at detail i
pub record PartsLeft (was : Outgoing) (parts : ℕ) (p : Position) (s : List ℕ) (kept : List Judged) (start : Writer) (k : ℕ) (o : Outgoing) (i : ℕ) (w : Writer) : Type 0 where
  pub day : o.day ≡ was.day
  pub count : o.count ≡ was.count + k
  pub within : i ≤ length kept
  pub unwritten : Unwritten (mt199s (parts - k) was.day was.count p (k + 1) parts (chosen_from is_listed199 s kept i)) w (mt199s parts was.day was.count p 1 parts (chosen_from is_listed199 s kept 0)) start

module _ {was : Outgoing} {parts : ℕ} {p : Position} {s : List ℕ} {kept : List Judged} {start : Writer} {k : ℕ} {o : Outgoing} {i : ℕ} {w : Writer} (l : PartsLeft was parts p s kept start k o i w) where
  module _ {r : Reference} {o' : Outgoing} (x : Steps o r o') where
    pub number_is : r.number ≡ was.count + (k + 1)
    number_is = ap (λ (y : Reference). y.number) x.reference ∙ omega (arith, l.count)

    pub part_numbered : k + 1 ≤ r.number
    part_numbered = omega (arith, number_is)

    day_is : r.day ≡ was.day
    day_is = ap (λ (y : Reference). y.day) x.reference ∙ l.day

    pub parts_turn : k < parts → {i' : ℕ} {w' : Writer} → PartPut r (k + 1) parts p s kept i w i' w' → PartsLeft was parts p s kept start (k + 1) o' i' w'
    unfolding mt199s
    parts_turn h u =
        let n : parts - k ≡ suc (parts - (k + 1)) = omega arith in
        let m : r.number - (k + 1) ≡ was.count = omega (arith, number_is) in
        record {
          day = ap (λ (y : Outgoing). y.day) x.kept ∙ l.day;
          count = ap (λ (y : Outgoing). y.count) x.kept ∙ omega (arith, l.count);
          within = u.within;
          unwritten = rw u.skipped (unwritten_turn (rw n at l.unwritten) (rw (m, day_is) at u.writes));
        }

  pub parts_end : parts ≤ k → k ≤ parts → PartsPut was o parts p s kept start w
  unfolding mt199s
  parts_end h m = let n : parts - k ≡ 0 = omega arith in record { writes = unwritten_none (rw n at l.unwritten); day = l.day; count = omega (arith, l.count) }

pub ruleset parting = (parts_one, parts_more, part_wrote)
