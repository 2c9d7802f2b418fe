-- The text of a turn, position by position: what is left to write, with one position more and behind the last.
use Rattle.std.specs.Prelude.{◌≡◌, Bool, true, not, ℕ, ◌+◌, ◌-◌, ◌*◌, ◌≤◌, ◌<◌, eqb}
use Rattle.std.proofs.Common.{arith, le-leb}
use Rattle.std.proofs.Math.Bool.{false}
use mathlib.Core.List.{List}
use Rattle.rules.specs.Engine.{Position, has_details}
use Rattle.rules.specs.Written.{corrected, correction_posting, correction, correction_postings, corrections, corrected_count}
use Rattle.rules.specs.Register.{register_of}
use Rattle.rules.specs.Area.{decode, positions_place, record_size}
use Rattle.put.specs.declared.parts.Writer.{Writer}
use Rattle.put.specs.Writes.{Writes, Unwritten, unwritten_turn, unwritten_none}
use Rattle.engine_laws.specs.Decoded.{decoded_room}
use Rattle.position.specs.Values.{position_value}
use Rattle.position.specs.declared.Position as P
use Rattle.outgoing_number.specs.declared.Outgoing.{Outgoing}
use Rattle.outgoing_number.specs.declared.Reference.{Reference}
use Rattle.outgoing_number.specs.Issue.{Steps}
use Rattle.engine.specs.Positions.{positions_from, positions_next, positions_none, PositionAt}

-- ---- is a position corrected?

module _ (p : Position) where
  pub corrected_none : p.detailed ≡ 0 → false ≡ corrected p
  unfolding corrected has_details
  corrected_none e = rw e

  pub corrected_told : (p.detailed ≡ 0 → ⊥) → (t : Bool) → t ≡ not (eqb p.transferred p.detailed) → t ≡ corrected p
  unfolding corrected has_details
  corrected_told h t e = rw (le-leb 1 p.detailed (omega (arith, h))) e

-- ---- the posting lines

-- those of any k positions from the p-th on, within any text
module _ (day : ℕ) (t area : List ℕ) (p k : ℕ) {whole : List ℕ} {start w : Writer} (l : Unwritten (correction_postings day t (positions_from area p k)) w whole start) where
  module _ (h : 0 < k) {q : P.Position} (r : PositionAt area (positions_place + record_size * p) q) where
    pub posting_written : true ≡ corrected (position_value q) → {w' : Writer} → Writes (correction_posting day t (position_value q)) w w' → Unwritten (correction_postings day t (positions_from area (p + 1) (k - 1))) w' whole start
    unfolding correction_postings
    posting_written u v = unwritten_turn (rw (positions_next area p k h, ← r.value, ← u) at l) v

    pub posting_passed : false ≡ corrected (position_value q) → Unwritten (correction_postings day t (positions_from area (p + 1) (k - 1))) w whole start
    unfolding correction_postings
    posting_passed u = rw (positions_next area p k h, ← r.value, ← u) at l

  pub postings_from : k ≤ 0 → Writes whole start w
  unfolding correction_postings
  postings_from h = unwritten_none (rw (positions_none area p k h) at l)

-- the positions of n from a number on
abbrev pub rest : List ℕ → ℕ → ℕ → List Position
rest area n i = positions_from area i (n - i)

one_less : {i n : ℕ} → i < n → n - i - 1 ≡ n - (i + 1)
one_less h = omega arith

-- those of the positions from the i-th on are left to write
pub record PostingsLeft (day : ℕ) (t area : List ℕ) (n : ℕ) (start : Writer) (i : ℕ) (w : Writer) : Type 0 where
  pub text : Unwritten (correction_postings day t (rest area n i)) w (correction_postings day t (positions_from area 0 n)) start

module _ {day : ℕ} {t area : List ℕ} {n i : ℕ} {start w : Writer} (l : PostingsLeft day t area n start i w) where
  module _ (h : i < n) {q : P.Position} (r : PositionAt area (positions_place + record_size * i) q) where
    pub postings_more : true ≡ corrected (position_value q) → {w' : Writer} → Writes (correction_posting day t (position_value q)) w w' → PostingsLeft day t area n start (i + 1) w'
    postings_more u v = record { text = rw (one_less h) at (posting_written day t area i (n - i) l.text (omega arith) r u v) }

    pub postings_skip : false ≡ corrected (position_value q) → PostingsLeft day t area n start (i + 1) w
    postings_skip u = record { text = rw (one_less h) at (posting_passed day t area i (n - i) l.text (omega arith) r u) }

  pub postings_end : (decode area).positions ≡ positions_from area 0 n → n ≤ i → Writes (correction_postings day t (decode area).positions) start w
  postings_end e h = rw e (postings_from day t area i (n - i) l.text (omega arith))

-- ---- the messages

-- the temporary account of the engine that the area holds
abbrev pub temporary_at : List ℕ → List ℕ
temporary_at area = (register_of (decode area).register).temporary

-- those of k positions from the p-th on, and the count that they came to
pub record CorrectionsFrom (day : ℕ) (area : List ℕ) (p k : ℕ) (old : Writer) (count : ℕ) (new : Writer) : Type 0 where
  pub writes : Writes (corrections day (temporary_at area) 0 (positions_from area p k)) old new
  pub counted : count ≡ corrected_count (positions_from area p k)

-- by the outgoing number as it is kept, those of j positions from the i-th on are left of them to write
pub record CorrectionsDue (day : ℕ) (area : List ℕ) (p k : ℕ) (start : Writer) (i j : ℕ) (x : Outgoing) (w : Writer) : Type 0 where
  pub on_day : x.day ≡ day
  pub count : x.count + corrected_count (positions_from area i j) ≡ corrected_count (positions_from area p k)
  pub text : Unwritten (corrections day (temporary_at area) x.count (positions_from area i j)) w (corrections day (temporary_at area) 0 (positions_from area p k)) start

module _ {day : ℕ} {area : List ℕ} {p k : ℕ} {start : Writer} {i j : ℕ} {x : Outgoing} {w : Writer} (l : CorrectionsDue day area p k start i j x w) where
  module _ (h : 0 < j) {q : P.Position} (a : PositionAt area (positions_place + record_size * i) q) where
    pub correction_written : true ≡ corrected (position_value q) → {r : Reference} {x' : Outgoing} → Steps x r x' → {t : List ℕ} → t ≡ temporary_at area
        → {w' : Writer} → Writes (correction r.day t r.number (position_value q)) w w' → CorrectionsDue day area p k start (i + 1) (j - 1) x' w'
    unfolding corrections corrected_count
    correction_written u s e v = rw s.kept record {
      on_day = l.on_day;
      count = omega (arith, rw (positions_next area i j h, ← a.value, ← u) at l.count);
      text = unwritten_turn (rw (positions_next area i j h, ← a.value, ← u) at l.text) (rw (s.reference, l.on_day, e) at v);
    }

    pub correction_passed : false ≡ corrected (position_value q) → CorrectionsDue day area p k start (i + 1) (j - 1) x w
    unfolding corrections corrected_count
    correction_passed u = record {
      on_day = l.on_day;
      count = rw (positions_next area i j h, ← a.value, ← u) at l.count;
      text = rw (positions_next area i j h, ← a.value, ← u) at l.text;
    }

  pub corrections_from : j ≤ 0 → CorrectionsFrom day area p k start x.count w
  unfolding corrections corrected_count
  corrections_from h = record { writes = unwritten_none (rw (positions_none area i j h) at l.text); counted = omega (arith, rw (positions_none area i j h) at l.count) }

-- the messages of the positions, and the count that they came to
pub record CorrectionsPut (day : ℕ) (area : List ℕ) (old : Writer) (count : ℕ) (new : Writer) : Type 0 where
  pub writes : Writes (corrections day (temporary_at area) 0 (decode area).positions) old new
  pub counted : count ≡ corrected_count (decode area).positions

-- by the outgoing number as it is kept, the messages of the positions from the i-th on are left to write
pub record CorrectionsLeft (day n : ℕ) (area : List ℕ) (start : Writer) (i : ℕ) (x : Outgoing) (w : Writer) : Type 0 where
  pub on_day : x.day ≡ day
  pub few : x.count ≤ i
  pub count : x.count + corrected_count (rest area n i) ≡ corrected_count (positions_from area 0 n)
  pub text : Unwritten (corrections day (temporary_at area) x.count (rest area n i)) w (corrections day (temporary_at area) 0 (positions_from area 0 n)) start

module _ {day n : ℕ} {area : List ℕ} {start : Writer} {i : ℕ} {x : Outgoing} {w : Writer} (l : CorrectionsLeft day n area start i x w) where
  due : CorrectionsDue day area 0 n start i (n - i) x w
  due = record { on_day = l.on_day; count = l.count; text = l.text }

  module _ (h : i < n) where
    next : {x' : Outgoing} {w' : Writer} → x'.count ≤ i + 1 → CorrectionsDue day area 0 n start (i + 1) (n - i - 1) x' w' → CorrectionsLeft day n area start (i + 1) x' w'
    next f d = record { on_day = d.on_day; few = f; count = rw (one_less h) at d.count; text = rw (one_less h) at d.text }

    module _ {q : P.Position} (p : PositionAt area (positions_place + record_size * i) q) where
      pub corrections_more : true ≡ corrected (position_value q) → {r : Reference} {x' : Outgoing} → Steps x r x' → {t : List ℕ} → t ≡ temporary_at area
          → {w' : Writer} → Writes (correction r.day t r.number (position_value q)) w w' → CorrectionsLeft day n area start (i + 1) x' w'
      corrections_more u s e v = next (rw s.kept (omega (arith, l.few))) (correction_written due (omega arith) p u s e v)

      pub corrections_skip : false ≡ corrected (position_value q) → CorrectionsLeft day n area start (i + 1) x w
      corrections_skip u = next (omega (arith, l.few)) (correction_passed due (omega arith) p u)

  pub corrections_end : (decode area).positions ≡ positions_from area 0 n → n ≤ i → CorrectionsPut day area start x.count w
  corrections_end e h = let d : CorrectionsFrom day area 0 n start x.count w = corrections_from due (omega arith) in record { writes = rw e d.writes; counted = rw e d.counted }

pub ruleset turning = (decoded_room, corrected_none, corrected_told)
