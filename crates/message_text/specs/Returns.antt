-- The MT103 of the returned details, as the code's loop writes them. What is left of the walk gives the answer.
use Rattle.std.specs.Prelude.{◌≡◌, refl, Bool, true, false, List, [], ◌∷◌, ◌++◌, ℕ, ◌+◌, ◌≤◌, ◌<◌, length, get_or}
use Rattle.std.proofs.Common.{ap, arith}
use Rattle.rules.specs.Messages.{Detail, past}
use Rattle.rules.specs.Register.{register_of}
use Rattle.rules.specs.Verdict.{is_returned}
use Rattle.rules.specs.Written.{Book, return103, return_of, returns}
use Rattle.put.specs.declared.parts.Writer.{Writer}
use Rattle.put.specs.Writes.{Writes, Unwritten, unwritten_turn, unwritten_none}
use Rattle.forms.specs.Spans.{span_of}
use Rattle.details.specs.Message.{details_in, detail_at}
use Rattle.details.specs.Kept.{KeptOf}
use Rattle.verdict.specs.Details.{KeptIn, kept_at}
use Rattle.verdict.specs.declared.detail.Judged.{Judged}
use Rattle.written.specs.Values.{book_of}
use Rattle.written.specs.declared.Book as W
use Rattle.detail_lines.specs.Chosen.{tells, chosen_from, chosen_end, chosen_one, chosen_none}
use Rattle.detail_lines.specs.Postings.{book_by}
use Rattle.detail_lines.specs.Returns.{return_kept}
use Rattle.outgoing_number.specs.declared.Outgoing.{Outgoing}
use Rattle.outgoing_number.specs.declared.Reference.{Reference}
use Rattle.outgoing_number.specs.Issue.{Steps}

-- they were written, the outgoing number going from o to o'
pub record ReturnsPut (o o' : Outgoing) (b : W.Book) (text s : List ℕ) (kept : List Judged) (old new : Writer) : Type 0 where
  pub writes : Writes (returns (book_by text b) o.count (chosen_from is_returned s kept 0)) old new
  pub count : o'.count ≡ o.count + length (chosen_from is_returned s kept 0)

-- those from detail i on are left, the outgoing number being o now
pub record ReturnsLeft (was : Outgoing) (b : W.Book) (text s : List ℕ) (kept : List Judged) (start : Writer) (i : ℕ) (o : Outgoing) (w : Writer) : Type 0 where
  pub count : o.count + length (chosen_from is_returned s kept i) ≡ was.count + length (chosen_from is_returned s kept 0)
  pub few : o.count ≤ was.count + i
  pub unwritten : Unwritten (returns (book_by text b) o.count (chosen_from is_returned s kept i)) w (returns (book_by text b) was.count (chosen_from is_returned s kept 0)) start

-- a return before the others, and none
returns_step : (b : Book) (m : ℕ) (d : Detail) (ds : List Detail) → returns b m (d ∷ ds) ≡ return_of b (m + 1) d ++ returns b (m + 1) ds
unfolding returns
returns_step b m d ds = refl

module _ {was : Outgoing} {b : W.Book} {text s : List ℕ} {kept : List Judged} {start : Writer} {i : ℕ} {o : Outgoing} {w : Writer} (k : KeptIn s kept) (l : ReturnsLeft was b text s kept start i o w) where
  pub returns_end : length kept ≤ i → ReturnsPut was o b text s kept start w
  unfolding returns
  returns_end h = let n : chosen_from is_returned s kept i ≡ [] = chosen_end is_returned s kept k.count i h in record { writes = unwritten_none (rw n at l.unwritten); count = omega (arith, rw n at l.count) }

  module _ (h : i < length kept) (j : Judged) (t : Bool) (u : t ≡ tells is_returned (get_or kept i j)) where
    pub returns_pass : t ≡ false → ReturnsLeft was b text s kept start (i + 1) o w
    returns_pass d =
        let n : chosen_from is_returned s kept i ≡ chosen_from is_returned s kept (i + 1) = chosen_none is_returned s kept k.count i h j t u d in
        record { count = rw n at l.count; few = omega (arith, l.few); unwritten = rw n at l.unwritten }

    module _ (d : t ≡ true) (x : List ℕ) (g : x ≡ (register_of text).temporary) {r : Reference} {o' : Outgoing} (e : Steps o r o') where
      its : KeptOf s (detail_at (details_in s) i) (get_or kept i j).detail
      its = kept_at s kept k i h j

      one : chosen_from is_returned s kept i ≡ detail_at (details_in s) i ∷ chosen_from is_returned s kept (i + 1)
      one = chosen_one is_returned s kept k.count i h j t u d

      number_is : r.number ≡ o.count + 1
      number_is = ap (λ (x : Reference). x.number) e.reference

      count_is : o'.count ≡ o.count + 1
      count_is = ap (λ (x : Outgoing). x.count) e.kept

      pub returns_turn : {w' : Writer} → Writes (return103 (book_of x b) r.number (get_or kept i j).detail.amount (past ":52D:" (span_of s (get_or kept i j).detail.branch)) (past ":50H:" (span_of s (get_or kept i j).detail.payer))) w w'
          → ReturnsLeft was b text s kept start (i + 1) o' w'
      returns_turn {w'} u =
          let v : Writes (return_of (book_by text b) r.number (detail_at (details_in s) i)) w w' = rw (← return_kept s (book_by text b) r.number (get_or kept i j).detail.amount (detail_at (details_in s) i) (get_or kept i j).detail.branch (get_or kept i j).detail.payer its.amount its.branch its.payer) (rw g at u) in
          record {
            count = omega (arith, l.count, count_is, ap length one);
            few = omega (arith, l.few, count_is);
            unwritten = rw count_is (unwritten_turn (rw (one, returns_step (book_by text b) o.count (detail_at (details_in s) i) (chosen_from is_returned s kept (i + 1))) at l.unwritten) (rw number_is at v));
          }
