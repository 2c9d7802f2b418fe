-- Numbers written by groups of eight places: what a writer of such a group lays, and how groups make up a number and an amount.
use Rattle.std.specs.Prelude.{◌≡◌, ◌⊎◌, List, [], ◌∷◌, ◌++◌, ℕ, ◌+◌, ◌-◌, ◌/◌, ◌%◌, ◌^◌, ◌≤◌, ◌<◌}
use Rattle.std.specs.Int.{to_be_bytes, w64}
use Rattle.std.proofs.Math.Path.{sym}
use Rattle.std.proofs.Math.Nat.{div-one, zero-add}
use Rattle.std.proofs.Common.{ap, ◌∙◌, inl, inr, eq-zero-or-pos, lit<, lit≤}
use native.Mathlib.Omega.{arith}
use Rattle.std.proofs.Math.ListN.{length, length-append}
use Rattle.std.proofs.Math.Seq.{take-length}
use Rattle.rules.specs.Text.{places, fixed, bytes, width, decimal}
use Rattle.rules.specs.Amounts.{written}
use Rattle.laws.specs.Parts.{cut}
use Rattle.laws.specs.Writing.{Wrote, ahead, furthest, filled, wrote_then}
use Rattle.laws.specs.Pieces.{wrote_3, wrote_nothing}
use Rattle.put.specs.Laying.{wrote_behind}
use Rattle.laws.specs.Digits.{places_length, places_split, places_part, places_end, places_rest, places_front}

-- the last k of eight places, and nulls in front where k is more
unfoldable pub last_of : ℕ → ℕ → List ℕ → List ℕ
last_of null k d = filled (k - 8) null ++ cut d (8 - k) 8

pub last_joined : (null k a : ℕ) (d : List ℕ) {out out₁ out' : List ℕ} {at m r : ℕ} → Wrote (filled (k - 8) null) at out m out₁ → Wrote (cut d a 8) m out₁ r out' → a ≡ 8 - k
    → Wrote (last_of null k d) at out r out'
unfolding last_of
last_joined null k a d v w e = wrote_then v (rw e at w)

-- none in front of eight places or fewer
pub no_nulls : (null k : ℕ) {out : List ℕ} {at : ℕ} → k ≤ 8 → length out ≤ furthest → Wrote (filled (k - 8) null) at out at out
unfolding filled
no_nulls null k h s = let e : k - 8 ≡ 0 = omega arith in rw e (wrote_nothing s)

module _ (null k : ℕ) (d : List ℕ) {out out' : List ℕ} {at r : ℕ} where
  pub last_few : k ≤ 8 → Wrote (cut d (8 - k) 8) at out r out' → Wrote (last_of null k d) at out r out'
  unfolding last_of filled
  last_few h w = let e : k - 8 ≡ 0 = omega arith in rw e w

  pub last_more : {m : ℕ} {out₁ : List ℕ} → 8 < k → length d ≡ 8 → Wrote (filled (k - 8) null) at out m out₁ → Wrote d m out₁ r out' → Wrote (last_of null k d) at out r out'
  unfolding last_of cut
  last_more h l v w = let e : 8 - k ≡ 0 = omega arith in rw (e, ← l, take-length d) (rw l (wrote_then v w))

-- of a number that eight places hold, they are its k places
last_places : (base null k v : ℕ) → v < base ^ 8 → last_of null k (places base null 8 v) ≡ places base null k v
unfolding last_of filled
last_places base null k v h = pick (eq-zero-or-pos (k - 8))
  where
    pick : (k - 8 ≡ 0) ⊎ (0 < k - 8) → filled (k - 8) null ++ cut (places base null 8 v) (8 - k) 8 ≡ places base null k v
    pick (inl e) = rw e (places_end base null 8 k v (omega arith))
    pick (inr l) =
        let e : 8 - k ≡ 8 - 8 = omega arith in
        let f : k ≡ k - 8 + 8 = omega arith in
        rw (e, places_end base null 8 8 v (lit≤ tt)) (sym (ap (λ (n : ℕ). places base null n v) f ∙ places_front base null (k - 8) 8 v h))

pub last_wrote : (base null k v : ℕ) (d : List ℕ) {out out' : List ℕ} {at r : ℕ} → d ≡ places base null 8 v → v < base ^ 8 → Wrote (last_of null k d) at out r out'
    → Wrote (places base null k v) at out r out'
last_wrote base null k v d e h w = rw (e, last_places base null k v h) at w

-- the eight bytes of a number
pub be_bytes : (v : ℕ) → v < 2 ^ 64 → to_be_bytes w64 v ≡ bytes 8 v
unfolding places
be_bytes v h = simp (zero-add, div-one)

-- ---- groups of a number

-- eight digits at most are those of what is over a hundred million
pub low_wrote : (k v m : ℕ) {out out' : List ℕ} {at r : ℕ} → m ≡ v % 100000000 → k ≤ 8 → Wrote (fixed k m) at out r out' → Wrote (fixed k v) at out r out'
low_wrote k v m e h w = rw (e, places_rest 10 48 8 k v (lit< tt) h) at w

-- above them stand those of the quotient
pub group_wrote : (k v q l : ℕ) {out out₁ out' : List ℕ} {at m r : ℕ} → 8 < k → q ≡ v / 100000000 → l ≡ v % 100000000 → Wrote (fixed (k - 8) q) at out m out₁ → Wrote (fixed 8 l) m out₁ r out'
    → Wrote (fixed k v) at out r out'
group_wrote k v q l h e f x y =
    let n : k ≡ k - 8 + 8 = omega arith in
    let g : fixed (k - 8) q ++ fixed 8 l ≡ fixed k v =
    rw (e, f, places_rest 10 48 8 8 v (lit< tt) (lit≤ tt)) (sym (ap (λ (j : ℕ). fixed j v) n ∙ places_split 10 48 (k - 8) 8 v)) in
    rw g at (wrote_then x y)

-- all digits of a number
pub decimal_wrote : (k v : ℕ) {at r : ℕ} {out out' : List ℕ} → k ≡ width 19 v → Wrote (fixed k v) at out r out' → Wrote (decimal v) at out r out'
decimal_wrote k v e w = rw e at w

-- ---- an amount

-- w digits of levs, q being what stands above the last eight digits of the stotinki, and d these eight
unfoldable pub levs_of : ℕ → ℕ → List ℕ → List ℕ
levs_of w q d = fixed (w - 6) q ++ cut d (6 - w) 6

module _ (w q : ℕ) (d : List ℕ) {out out' : List ℕ} {at r : ℕ} where
  pub levs_few : w ≤ 6 → Wrote (cut d (6 - w) 6) at out r out' → Wrote (levs_of w q d) at out r out'
  unfolding levs_of places
  levs_few h x = let e : w - 6 ≡ 0 = omega arith in rw e x

  pub levs_more : {m : ℕ} {out₁ : List ℕ} → 6 < w → Wrote (fixed (w - 6) q) at out m out₁ → Wrote (cut d 0 6) m out₁ r out' → Wrote (levs_of w q d) at out r out'
  unfolding levs_of
  levs_more h x y = let e : 6 - w ≡ 0 = omega arith in rw e (wrote_then x y)

levs_places : (w v : ℕ) → levs_of w (v / 100000000) (fixed 8 v) ≡ fixed w (v / 100)
unfolding levs_of places
levs_places w v = pick (eq-zero-or-pos (w - 6))
  where
    part : (a : ℕ) → a ≤ 6 → cut (fixed 8 v) a 6 ≡ fixed (6 - a) (v / 100)
    part a h = places_part 10 48 8 a 6 v h (lit≤ tt)

    pick : (w - 6 ≡ 0) ⊎ (0 < w - 6) → fixed (w - 6) (v / 100000000) ++ cut (fixed 8 v) (6 - w) 6 ≡ fixed w (v / 100)
    pick (inl e) = let f : 6 - (6 - w) ≡ w = omega arith in rw e (rw f at (part (6 - w) (omega arith)))
    pick (inr l) =
        let e : 6 - w ≡ 0 = omega arith in
        let f : w ≡ w - 6 + 6 = omega arith in
        let g : v / 100000000 ≡ v / 100 / 10 ^ 6 = omega arith in
        rw (e, part 0 (lit≤ tt), g) (sym (ap (λ (n : ℕ). fixed n (v / 100)) f ∙ places_split 10 48 (w - 6) 6 (v / 100)))

module _ (w v mark : ℕ) {out out' : List ℕ} {at r : ℕ} (e : w ≡ width 19 (v / 100)) where
  pub amount_wrote : (q : ℕ) (d : List ℕ) {m n : ℕ} {out₁ out₂ : List ℕ} → q ≡ v / 100000000 → d ≡ fixed 8 (v % 100000000) → Wrote (levs_of w q d) at out m out₁ → Wrote (mark ∷ []) m out₁ n out₂
      → Wrote (cut d 6 8) n out₂ r out' → Wrote (written (mark ∷ []) v) at out r out'
  unfolding written
  amount_wrote q d c g x y z =
      let f : d ≡ fixed 8 v = g ∙ places_rest 10 48 8 8 v (lit< tt) (lit≤ tt) in
      let h : levs_of w q d ≡ decimal (v / 100) = rw (c, f, levs_places w v, e) in
      let l : cut d 6 8 ≡ fixed 2 (v % 100) = rw f (places_end 10 48 8 2 v (lit≤ tt) ∙ sym (places_rest 10 48 2 2 v (lit< tt) (lit≤ tt))) in
      wrote_3 (rw h at x) y (rw l at z)

  -- behind the output it is only measured
  pub amount_measured : length out ≤ at → length out ≤ furthest → out' ≡ out → r ≡ ahead at (w + 3) → Wrote (written (mark ∷ []) v) at out r out'
  unfolding written
  amount_measured h s f c =
      let l : length (written (mark ∷ []) v) ≡ w + 3 = rw (length-append, length-append, places_length 10 48 (width 19 (v / 100)) (v / 100), places_length 10 48 2 (v % 100), ← e) (omega arith) in
      wrote_behind _ h s f (rw l c)

pub ruleset grouping = (last_joined, no_nulls, last_wrote, low_wrote, group_wrote, decimal_wrote, levs_few, levs_more, amount_wrote, amount_measured)
