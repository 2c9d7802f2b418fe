-- A section at its place in a larger area: what is written into it leaves a section there, and the rest stays.
use Rattle.std.specs.Prelude.{◌≡◌, refl, Bool, get_or, drop, set}
use Rattle.std.proofs.Math.Path.{sym, ap}
use Rattle.std.proofs.Common.{◌∙◌, add-zero, mul-add, mul-le-mul_left, arith, length-set, length-append, take_at}
use mathlib.Core.List.{List, [], ◌∷◌, ◌++◌, append_assoc}
use Prim.Native.Nat.{ℕ, suc, ◌+◌, ◌-◌, ◌*◌, ◌≤◌, ◌<◌}
use Rattle.std.proofs.Math.Nat.{mul-suc}
use Rattle.std.proofs.Math.ListN.{length, take, length-drop}
use Rattle.std.proofs.lemmas.List.{set-append_left}
use Rattle.std.proofs.Math.Seq.{drop_at, drop-append-add}
use Rattle.rules.specs.Text.{passing}
use Rattle.rules.specs.Area.{zeros, padded, joined, records_of}
use Rattle.laws.specs.Laid.{laid, laid_append, laid_past, laid_apart}
use Rattle.laws.specs.Writing.{Wrote}
use Rattle.laws.specs.Sections.{Each, inserted, replaced, zeros_length, padded_length, padded_front, passing_length, joined_length, joined_split, joined_front, section_record, section_replaced, section_inserted, records_back}
use Rattle.laws.specs.All.{all_drop, all_passing}

-- a part x stands at a place of an area, behind p and before q
pub record Stands (p x q : List ℕ) (base : ℕ) (area : List ℕ) : Type 0 where
  pub before : length p ≡ base
  pub whole : area ≡ p ++ (x ++ q)

-- an area with n of its bytes, those at a place, laid to another
unfoldable pub moved : ℕ → ℕ → ℕ → List ℕ → List ℕ
moved here there n area = laid (take n (drop here area)) there area

laid_left : (s : List ℕ) (at : ℕ) (a b : List ℕ) → at + length s ≤ length a → laid s at (a ++ b) ≡ laid s at a ++ b
unfolding laid
laid_left [] at a b h = refl
laid_left (x ∷ s) at a b h =
    rw (set-append_left a b at x (omega arith)) (laid_left s (suc at) (set a at x) b (rw length-set (omega arith)))

module _ {p x q : List ℕ} {base : ℕ} {area : List ℕ} (t : Stands p x q base area) where
  -- bytes of the part
  pub stands_from_lem : (j : ℕ) → drop (base + j) area ≡ drop j (x ++ q)
  stands_from_lem j = ap (λ (l : List ℕ). drop (base + j) l) t.whole ∙ rw (← t.before, drop-append-add p (x ++ q) j)

  -- a text written within it
  pub stands_laid : (r : List ℕ) (j : ℕ) → j + length r ≤ length x → Stands p (laid r j x) q base (laid r (base + j) area)
  stands_laid r j h = record {
    before = t.before;
    whole = rw (t.whole, ← t.before, laid_past r p (x ++ q) j, laid_left r j x q h);
  }

-- a text with room behind it gives way to a shorter one, with zeros over what that leaves
pub stands_shorter : {p q area : List ℕ} {base : ℕ} (n : ℕ) (b s : List ℕ) → Stands p (padded n b) q base area → length b ≤ n → length s ≤ length b
    → Stands p (padded n s) q base (laid (padded (length b) s) base area)
unfolding padded
stands_shorter n b s t l h =
    let z : List ℕ = s ++ zeros (length b - length s) in
    let e : length z ≡ length b = rw (length-append, zeros_length) (omega arith) in
    let f : length (padded n b) ≡ n = padded_length n b l in
    rw (← padded_front n b s h l) (rw add-zero at (stands_laid t z 0 (rw (e, f) (omega arith))))

-- ---- records at their places

module _ (n : ℕ) {w base : ℕ} {p q area : List ℕ} {xs : List (List ℕ)} (t : Stands p (padded n (joined xs)) q base area) (s : Each w xs) where
  pub stands_record : (i : ℕ) → i < length xs → take w (drop (base + w * i) area) ≡ get_or xs i []
  stands_record i h = rw (stands_from_lem t (w * i)) (section_record n i s q h)

  pub stands_records : records_of w (length xs) (drop base area) ≡ xs
  unfolding padded
  stands_records =
      ap (λ (k : ℕ). records_of w (length xs) (drop k area)) (sym (add-zero base))
      ∙ rw (stands_from_lem t 0, append_assoc) (records_back (zeros (n - length (joined xs)) ++ q) s)

  module _ (r : List ℕ) (e : length r ≡ w) where
    -- a record written over record i
    pub stands_replaced : (i : ℕ) {m : ℕ} {area' : List ℕ} → i < length xs → w * length xs ≤ n → Wrote r (base + w * i) area m area'
        → Stands p (padded n (joined (replaced i r xs))) q base area'
    stands_replaced i h l v =
        let f : length (padded n (joined xs)) ≡ n = padded_length n (joined xs) (rw (joined_length s) l) in
        rw (v.output, ← section_replaced n i s r e h)
        (stands_laid t r (w * i) (rw f (omega (arith, mul-le-mul_left w h, mul-suc w i))))

    -- those from record i on moved up by a record, and a record written at i
    pub stands_inserted : (i : ℕ) {m : ℕ} {area₁ area' : List ℕ} → i ≤ length xs → w * suc (length xs) ≤ n
        → area₁ ≡ moved (base + w * i) (base + w * i + w) (w * (length xs - i)) area → Wrote r (base + w * i) area₁ m area'
        → Stands p (padded n (joined (inserted i r xs))) q base area'
    unfolding moved padded
    stands_inserted i {m} {area₁} {area'} h l u v =
        let P : ℕ = base + w * i in
        let M : List ℕ = joined (drop i xs) in
        let Z : List ℕ = zeros (n - length (joined xs)) in
        let f : length (padded n (joined xs)) ≡ n = padded_length n (joined xs) (rw (joined_length s) (omega (arith, mul-suc w (length xs)))) in
        let k : length M ≡ w * (length xs - i) = joined_length (all_drop i s) ∙ rw length-drop in
        let parts : joined xs ++ Z ++ q ≡ joined (take i xs) ++ (M ++ (Z ++ q)) =
        ap (λ (x : List ℕ). x ++ Z ++ q) (joined_split i xs) ∙ simp append_assoc in
        let g : take (w * (length xs - i)) (drop P area) ≡ M =
        rw (stands_from_lem t (w * i), parts, drop_at (joined (take i xs)) (M ++ (Z ++ q)) (w * i) (joined_front i s h), ← k)
        (take_at M (Z ++ q) (length M) refl) in
        let o : area' ≡ laid (r ++ M) P area =
        v.output ∙ ap (laid r P) (u ∙ ap (λ (x : List ℕ). laid x (P + w) area) g)
        ∙ laid_apart r M P (P + w) area (omega arith)
        ∙ ap (λ (x : ℕ). laid M (P + x) (laid r P area)) (sym e)
        ∙ sym (laid_append r M P area) in
        let d : w * i + w * (length xs - i) ≡ w * length xs = sym (mul-add w i (length xs - i)) ∙ ap (λ (x : ℕ). w * x) (omega arith) in
        rw (o, ← section_inserted n i s r e h l)
        (stands_laid t (r ++ M) (w * i) (rw (f, length-append) (omega (arith, mul-suc w (length xs)))))

  -- those that pass a test, laid over all of them
  pub stands_passing : (f : List ℕ → Bool) → w * length xs ≤ n
      → Stands p (padded n (joined (passing f xs))) q base (laid (padded (w * length xs) (joined (passing f xs))) base area)
  stands_passing f l =
      let k : length (joined (passing f xs)) ≡ w * length (passing f xs) = joined_length (all_passing f s) in
      rw (joined_length s) at
      (stands_shorter n (joined xs) (joined (passing f xs)) t (rw (joined_length s) l)
      (rw (k, joined_length s) (mul-le-mul_left w (passing_length f xs))))
