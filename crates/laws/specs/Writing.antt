-- What a writer ensures and what a writing loop keeps: the text laid as far as the output reaches, and the place behind it, so that over an empty output it is measured.
use Rattle.std.specs.Prelude.{◌≡◌, refl, ◌⊎◌, List, [], ◌∷◌, ◌++◌, ℕ, zero, suc, ◌+◌, ◌-◌, ◌^◌, ◌≤◌, ◌<◌, min, length, set, replicate}
use Rattle.std.proofs.Common.{sym, ap, ◌∙◌, inl, inr, add-zero, eq-or-lt_of_le, length-append}
use native.Mathlib.Omega.{arith}
use Rattle.std.proofs.Math.Numerals.{add-one}
use Rattle.std.proofs.Math.ListN.{get_or}
use Rattle.std.proofs.lemmas.List.{length-replicate, replicate-append-replicate}
use Rattle.std.proofs.Math.Seq.{slice-cons, slice_empty}
use Rattle.rules.specs.Text.{ascii, over}
use Rattle.rules.specs.Area.{zeros}
use Rattle.laws.specs.Parts.{cut, cut_length}
use Rattle.laws.specs.Laid.{laid, laid_append, laid_length, laid_behind, over_laid}

-- the furthest place: every output is shorter
abbrev pub furthest : ℕ
furthest = 2 ^ 63

-- the place n bytes ahead, as far as places go
unfoldable pub ahead : ℕ → ℕ → ℕ
ahead at n = at + min n (furthest - at)

-- a text was written at a place: r is the place behind it, and out' the output then
pub record Wrote (bs : List ℕ) (at : ℕ) (out : List ℕ) (r : ℕ) (out' : List ℕ) : Type 0 where
  pub cursor : r ≡ ahead at (length bs)
  pub output : out' ≡ laid bs at out
  pub short : length out ≤ furthest

-- of a whole text, to be written at a place over start, the rest is left to write at the place o over out
pub record Left (rest : List ℕ) (o : ℕ) (out whole : List ℕ) (at : ℕ) (start : List ℕ) : Type 0 where
  pub cursor : ahead o (length rest) ≡ ahead at (length whole)
  pub output : laid rest o out ≡ laid whole at start
  pub short : length out ≤ furthest

-- ---- places

pub ahead_none : (at : ℕ) → at ≡ ahead at 0
unfolding ahead
ahead_none at = omega arith

pub ahead_ahead : (at n k : ℕ) → ahead (ahead at n) k ≡ ahead at (n + k)
unfolding ahead
ahead_ahead at n k = omega arith

-- for what is laid there, a place is exact: the furthest is behind every output
pub laid_ahead : (bs : List ℕ) (at n : ℕ) (out : List ℕ) → length out ≤ furthest → laid bs (ahead at n) out ≡ laid bs (at + n) out
unfolding ahead
laid_ahead bs at n out h = pick (eq-or-lt_of_le (omega arith))
  where
    m : ℕ
    m = at + min n (furthest - at)

    pick : (m ≡ at + n) ⊎ (m < at + n) → laid bs m out ≡ laid bs (at + n) out
    pick (inl e) = ap (λ (k : ℕ). laid bs k out) e
    pick (inr l) = laid_behind bs m out (omega arith) ∙ sym (laid_behind bs (at + n) out (omega arith))

-- ---- one byte, and texts one behind the other

pub laid_none : (at : ℕ) (out : List ℕ) → out ≡ laid [] at out
unfolding laid
laid_none at out = refl

pub laid_outside : (bs : List ℕ) (at : ℕ) (out : List ℕ) → length out ≤ at → out ≡ laid bs at out
laid_outside bs at out h = sym (laid_behind bs at out h)

-- the place behind a part
pub ahead_part : (s : List ℕ) (a b at r : ℕ) → b ≤ length s → r ≡ ahead at (b - a) → r ≡ ahead at (length (cut s a b))
ahead_part s a b at r h e = rw (cut_length s a b h) e

pub laid_inside : (b at : ℕ) (out : List ℕ) → set out at b ≡ laid (b ∷ []) at out
unfolding laid
laid_inside b at out = refl

-- a byte stored where there is room
pub stored : (b at : ℕ) (out : List ℕ) → at < length out → length out ≤ furthest → Wrote (b ∷ []) at out (at + 1) (set out at b)
unfolding ahead
stored b at out h s = record { cursor = omega arith; output = laid_inside b at out; short = s }

pub wrote_length : {bs out out' : List ℕ} {at r : ℕ} → Wrote bs at out r out' → length out' ≡ length out
wrote_length {bs} {out} {at = at} w = ap length w.output ∙ laid_length bs at out

pub wrote_then : {a b out out₁ out₂ : List ℕ} {at m r : ℕ} → Wrote a at out m out₁ → Wrote b m out₁ r out₂ → Wrote (a ++ b) at out r out₂
wrote_then {a} {b} {out} {at = at} v w = record {
  cursor = w.cursor ∙ rw (v.cursor, length-append) (ahead_ahead at (length a) (length b));
  output =
      w.output ∙ rw (v.cursor, v.output, laid_append)
      (laid_ahead b at (length a) (laid a at out) (rw laid_length v.short));
  short = v.short;
}

-- the end of a line, by its two bytes
pub end_wrote : {out out₁ out₂ : List ℕ} {at m r : ℕ} → Wrote (13 ∷ []) at out m out₁ → Wrote (10 ∷ []) m out₁ r out₂ → Wrote (ascii "\r\n") at out r out₂
end_wrote v w = wrote_then v w

-- a part told by its length
pub part_wrote : (s : List ℕ) (a b : ℕ) {out out' : List ℕ} {at r : ℕ} → a ≤ b → Wrote (cut s a (a + (b - a))) at out r out' → Wrote (cut s a b) at out r out'
part_wrote s a b h w = let e : a + (b - a) ≡ b = omega arith in rw e at w

-- where it fits, the output is the text and what stood behind it
pub wrote_over : {text out out' : List ℕ} {r : ℕ} → Wrote text 0 out r out' → length text ≤ length out → out' ≡ over text out
wrote_over {text} {out} w h = w.output ∙ sym (over_laid text out h)

-- ---- a writing loop

module _ {whole start : List ℕ} {at : ℕ} where
  pub left_turn : {b rest out out' : List ℕ} {o o' : ℕ} → Left (b ++ rest) o out whole at start → Wrote b o out o' out' → Left rest o' out' whole at start
  left_turn {b} {rest} {out} {o = o} l w = record {
    cursor = rw (w.cursor, ahead_ahead, ← length-append) l.cursor;
    output =
        rw (w.cursor, w.output, laid_ahead rest o (length b) (laid b o out) (rw laid_length w.short), ← laid_append) l.output;
    short = rw (w.output, laid_length) w.short;
  }

  pub left_length : {rest out : List ℕ} {o : ℕ} → Left rest o out whole at start → length out ≡ length start
  left_length {rest} {out} {o} l = sym (laid_length rest o out) ∙ ap length l.output ∙ laid_length whole at start

  pub left_none : {out : List ℕ} {o : ℕ} → Left [] o out whole at start → Wrote whole at start o out
  unfolding laid
  left_none {out} {o} l = record {
    cursor = ahead_none o ∙ l.cursor;
    output = l.output;
    short = rw (left_length l) at l.short;
  }

-- ---- a loop that copies: the bytes of src from index i up to end are left

module _ (src : List ℕ) (i end : ℕ) {whole start out : List ℕ} {at o : ℕ} where
  pub copy_turn : {o' : ℕ} {out' : List ℕ} → Left (cut src i end) o out whole at start → i < end → end ≤ length src → Wrote (get_or src i 0 ∷ []) o out o' out'
      → Left (cut src (i + 1) end) o' out' whole at start
  unfolding cut
  copy_turn l h k w = rw add-one (left_turn {b = get_or src i 0 ∷ []} (rw (slice-cons i end src 0 h k) at l) w)

  pub copy_end : Left (cut src i end) o out whole at start → i ≤ end → end ≤ i → Wrote whole at start o out
  unfolding cut
  copy_end l h k = let e : i ≡ end = omega arith in left_none (rw (e, slice_empty) at l)

-- and one that stores them itself: k of n are stored
pub copy_start : (src : List ℕ) (a n : ℕ) {out : List ℕ} {at : ℕ} → length out ≤ furthest → Left (cut src (a + 0) (a + n)) (at + 0) out (cut src a (a + n)) at out
copy_start src a n {at = at} h = record { cursor = rw (add-zero, add-zero); output = rw (add-zero, add-zero); short = h }

pub copy_on : (src : List ℕ) (a n k : ℕ) {whole start out : List ℕ} {at : ℕ} → Left (cut src (a + k) (a + n)) (at + k) out whole at start → k < n → a + n ≤ length src → at + n ≤ length out
    → Left (cut src (a + (k + 1)) (a + n)) (at + (k + 1)) (set out (at + k) (get_or src (a + k) 0)) whole at start
copy_on src a n k {at = at} l h m r =
    let e : a + (k + 1) ≡ a + k + 1 = omega arith in
    let f : at + (k + 1) ≡ at + k + 1 = omega arith in
    rw (e, f) (copy_turn src (a + k) (a + n) l (omega arith) m (stored _ _ _ (omega arith) l.short))

-- ---- one byte again and again

-- a byte n times
unfoldable pub filled : ℕ → ℕ → List ℕ
filled n b = replicate n b

pub filled_length : (n b : ℕ) → length (filled n b) ≡ n
unfolding filled
filled_length n b = length-replicate n b

pub ahead_filled : (n b at r : ℕ) → r ≡ ahead at n → r ≡ ahead at (length (filled n b))
ahead_filled n b at r e = rw filled_length e

filled_front : (n b : ℕ) → 0 < n → filled n b ≡ (b ∷ []) ++ filled (n - 1) b
unfolding filled
filled_front zero b h = absurd (omega arith)
filled_front (suc n) b h = let e : suc n - 1 ≡ n = omega arith in rw e

-- the loop that stores them, up to the place end
pub fill_start : (b n at : ℕ) {out : List ℕ} → length out ≤ furthest → Left (filled (at + n - at) b) at out (filled n b) at out
fill_start b n at h = let e : at + n - at ≡ n = omega arith in rw e record { cursor = refl; output = refl; short = h }

module _ (b i end : ℕ) {whole start out : List ℕ} {at : ℕ} (l : Left (filled (end - i) b) i out whole at start) where
  pub fill_turn : i < end → end ≤ length out → Left (filled (end - (i + 1)) b) (i + 1) (set out i b) whole at start
  fill_turn h m =
      let e : end - i - 1 ≡ end - (i + 1) = omega arith in
      rw e at (left_turn {b = b ∷ []} (rw (filled_front (end - i) b (omega arith)) at l) (stored b i out (omega arith) l.short))

  pub fill_end : end ≤ i → out ≡ laid whole at start
  unfolding filled
  fill_end h = let e : end - i ≡ 0 = omega arith in (left_none (rw e at l)).output

-- as many of them as the output has room for
laid_filled : (n m b at : ℕ) (out : List ℕ) → m ≡ min n (length out - at) → laid (filled m b) at out ≡ laid (filled n b) at out
unfolding filled laid
laid_filled n m b at out e = sym (ap (λ (k : ℕ). laid (replicate k b) at out) j ∙ rw (← replicate-append-replicate, laid_append, length-replicate) (pick (eq-or-lt_of_le (omega arith))))
  where
    j : n ≡ m + (n - m)
    j = omega arith

    pick : (m ≡ n) ⊎ (m < n) → laid (replicate (n - m) b) (at + m) (laid (replicate m b) at out) ≡ laid (replicate m b) at out
    pick (inl q) = let z : n - m ≡ 0 = omega arith in rw z
    pick (inr l) = laid_behind (replicate (n - m) b) (at + m) (laid (replicate m b) at out) (rw laid_length (omega arith))

pub filled_wrote : (n m b at r : ℕ) {out out' : List ℕ} → out' ≡ laid (filled m b) at out → m ≡ min n (length out - at) → length out ≤ furthest → r ≡ ahead at n → Wrote (filled n b) at out r out'
filled_wrote n m b at r {out} w e s c = record { cursor = rw filled_length c; output = w ∙ laid_filled n m b at out e; short = s }

-- zeros
pub zeros_wrote : (n : ℕ) {at r : ℕ} {out out' : List ℕ} → Wrote (filled n 0) at out r out' → Wrote (zeros n) at out r out'
unfolding filled zeros
zeros_wrote n w = w
