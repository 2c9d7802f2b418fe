-- What a slice's own methods leave of an output: a part of it copied over or filled, and bytes copied to another place.
use Rattle.std.specs.Prelude.{◌≡◌, refl, ◌⊎◌, List, ◌++◌, ℕ, ◌+◌, ◌-◌, ◌≤◌, ◌<◌, min, length, take, drop, replicate}
use Rattle.std.proofs.Common.{sym, ap, ◌∙◌, inl, inr, eq-or-lt_of_le, take-append-drop, length-take, length-drop}
use native.Mathlib.Omega.{arith}
use Rattle.std.proofs.Math.ListN.{drop_of_length-le}
use Rattle.std.proofs.Math.Seq.{paste, take-length}
use Rattle.std.proofs.lemmas.List.{length-replicate, take-replicate}
use Rattle.std.proofs.lemmas.Slice.{put_mid-paste, between_is}
use borrow.Rule.Slice.PartMut.{put_mid}
use Rattle.laws.specs.Parts.{cut}
use Rattle.laws.specs.Laid.{laid, laid_append, laid_behind, laid_fits, laid_length}
use Rattle.laws.specs.Standing.{moved}
use Rattle.laws.specs.Writing.{Wrote, ahead, furthest, filled, filled_length}

-- as much of a text as the output has room for
laid_front : (bs : List ℕ) (at n : ℕ) (out : List ℕ) → n ≡ min (length bs) (length out - at) → at ≤ length out → laid (take n bs) at out ≡ laid bs at out
unfolding laid
laid_front bs at n out e h = sym (ap (λ (l : List ℕ). laid l at out) (sym (take-append-drop n bs)) ∙ rw (laid_append, l) (pick (eq-or-lt_of_le (omega arith))))
  where
    l : length (take n bs) ≡ n
    l = omega (arith, length-take n bs)

    pick : (n ≡ length bs) ⊎ (n < length bs) → laid (drop n bs) (at + n) (laid (take n bs) at out) ≡ laid (take n bs) at out
    pick (inl q) = let g : length bs ≤ n = omega arith in rw (drop_of_length-le bs g)
    pick (inr g) = laid_behind (drop n bs) (at + n) (laid (take n bs) at out) (rw laid_length (omega arith))

module _ (bs ys : List ℕ) {out out' : List ℕ} {at k n r : ℕ} (e : n ≡ min (length bs) (length out - at)) (h : at ≤ length out) (s : length out ≤ furthest) where
  -- a part of the output that gave way to it
  pub part_wrote : out' ≡ put_mid at k out ys → k ≡ n → ys ≡ take n bs → r ≡ ahead at (length bs) → Wrote bs at out r out'
  part_wrote o f g c =
      let T : List ℕ = take n bs in
      let l : length T ≡ n = omega (arith, length-take n bs) in record {
        cursor = c;
        output =
            o ∙ put_mid-paste at k out ys T (length T) g (l ∙ sym f) refl
            ∙ ap (λ (x : List ℕ). take at out ++ x ++ drop (at + length T) out) (take-length T)
            ∙ sym (laid_fits T at out (omega arith))
            ∙ laid_front bs at n out e h;
        short = s;
      }

-- a part of the output that has room for all of it
pub whole_wrote : (bs ys : List ℕ) {out out' : List ℕ} {at k r : ℕ} → at + length bs ≤ length out → length out ≤ furthest → out' ≡ put_mid at k out ys → k ≡ length bs → ys ≡ bs → r ≡ at + length bs → Wrote bs at out r out'
unfolding ahead
whole_wrote bs ys h s o f g c = part_wrote bs ys (omega arith) (omega arith) s o f (g ∙ sym (take-length bs)) (omega arith)

-- behind the output nothing is written
pub wrote_behind : (bs : List ℕ) {out out' : List ℕ} {at r : ℕ} → length out ≤ at → length out ≤ furthest → out' ≡ out → r ≡ ahead at (length bs) → Wrote bs at out r out'
wrote_behind bs {out} {out'} {at} h s o c = record { cursor = c; output = o ∙ sym (laid_behind bs at out h); short = s }

-- a byte again and again: m of n have room
module _ (n b : ℕ) {out out' : List ℕ} {at r : ℕ} where
  pub fill_wrote : {k m : ℕ} (ys : List ℕ) → m ≡ min n (length out - at) → at ≤ length out → length out ≤ furthest → out' ≡ put_mid at k out ys → k ≡ m → ys ≡ replicate (length (take k (drop at out))) b → r ≡ ahead at n
      → Wrote (filled n b) at out r out'
  unfolding filled
  fill_wrote {k} {m} ys e h s o f g c =
      let l : length (replicate n b) ≡ n = length-replicate n b in
      let d : length (take k (drop at out)) ≡ m = omega (arith, length-take k (drop at out), length-drop at out) in
      part_wrote (replicate n b) ys (rw l e) h s o f (rw d at g ∙ sym (take-replicate m n b (omega arith))) (rw l c)

  pub fill_behind : length out ≤ at → length out ≤ furthest → out' ≡ out → r ≡ ahead at n → Wrote (filled n b) at out r out'
  fill_behind h s o c = wrote_behind (filled n b) h s o (rw filled_length c)

-- bytes copied to another place
pub moved_copy : (area : List ℕ) (here there n k : ℕ) → k ≡ n → here + n ≤ length area → there + n ≤ length area → paste area there (drop here area) k ≡ moved here there n area
unfolding moved
moved_copy area here there n k e f g =
    let T : List ℕ = take n (drop here area) in
    let l : length T ≡ n = omega (arith, length-take n (drop here area), length-drop here area) in
    rw (e) (sym (laid_fits T there area (omega arith) ∙ ap (λ (j : ℕ). take there area ++ T ++ drop (there + j) area) l))

-- a part of a slice, by its ends
pub wrote_cut : (s : List ℕ) (a b : ℕ) {out out' : List ℕ} {at r : ℕ} → Wrote (take (b - a) (drop a s)) at out r out' → Wrote (cut s a b) at out r out'
unfolding cut
wrote_cut s a b w = rw between_is at w
