-- Slices as std compares them, in the words of the definitions.
use Rattle.std.specs.Prelude.{◌≡◌, refl, Bool, true, false, cond, ◌&&◌, not, List, [], ◌∷◌, ℕ, suc, ◌+◌, ◌-◌, ◌≤◌, eqb, leb, length, take, drop, Option, Some}
use Rattle.std.specs.Cmp.Lexicographic.{pointwise, slice_partial_cmp}
use Rattle.std.specs.Ordering.{partial_lt, nat_cmp, partial_ordering_then, is_lt, is_some_and}
use Rattle.std.specs.declared.cmp.Ordering.{Ordering}
use Rattle.std.specs.List.{list_all, zip}
use Rattle.std.proofs.Common.{◌∙◌, take_all, length-drop, arith, eq-eqb, ne_eqb, inl, inr}
use Rattle.std.proofs.lemmas.Bool.{cases_lt, cases_eq}
use borrow.Author.Tests.{le-leb, lt-leb}
use Rattle.rules.specs.Text.{equal, text_before, fits, fits_sign}
use Rattle.laws.specs.Parts.{cut, from, from_take}

-- the slice from index a up to index b
pub part_cut : (s : List ℕ) (a b : ℕ) → a ≤ b → take (b - a) (drop a s) ≡ cut s a b
unfolding from
part_cut s a b h = let e : a + (b - a) ≡ b = omega arith in rw e at (from_take s a (b - a))

-- the slice from index a on
pub rest_whole : (s : List ℕ) (a : ℕ) → take (length s - a) (drop a s) ≡ drop a s
rest_whole s a = take_all (length s - a) (drop a s) (omega (arith, length-drop a s))

-- `==`
pub equal_is : (s t : List ℕ) → pointwise eqb s t ≡ equal s t
unfolding equal
equal_is [] [] = refl
equal_is [] (d ∷ t) = refl
equal_is (c ∷ s) [] = refl
equal_is (c ∷ s) (d ∷ t) = rw (equal_is s t) (go (eqb c d) (equal s t))
  where
    go : (q r : Bool) → (q && r) ≡ cond q r false
    go true r = refl
    go false r = refl

-- `<`
first_before : (c d : ℕ) (o : Option Ordering) → is_some_and is_lt (partial_ordering_then (Some (nat_cmp c d)) o) ≡ cond (eqb c d) (is_some_and is_lt o) (not (leb d c))
first_before c d o =
    elim (cases_lt c d) [
      | inl h ↦ let n : eqb c d ≡ false = ne_eqb c d (λ (q : c ≡ d). omega arith) in rw (le-leb (suc c) d (omega arith), n, lt-leb d c h) refl
      | inr h ↦ elim (cases_eq c d) [
        | inl e ↦ rw (lt-leb (suc c) d (omega arith), eq-eqb c d e) refl
        | inr n ↦ rw (lt-leb (suc c) d (omega arith), ne_eqb c d n, le-leb d c h) refl
      ]
    ]

pub before_is : (s t : List ℕ) → partial_lt (slice_partial_cmp (λ x y. Some (nat_cmp x y))) s t ≡ text_before s t
unfolding text_before
before_is [] [] = refl
before_is [] (d ∷ t) = refl
before_is (c ∷ s) [] = refl
before_is (c ∷ s) (d ∷ t) = first_before c d (slice_partial_cmp (λ x y. Some (nat_cmp x y)) s t) ∙ (rw (before_is s t) refl)

-- bytes against a pattern, pair by pair
pub pairs_fit : (p s : List ℕ) → length p ≤ length s → list_all (λ (q : ℕ × ℕ). fits_sign q.0 q.1) (zip p s) ≡ fits p (take (length p) s)
unfolding fits
pairs_fit [] s h = refl
pairs_fit (q ∷ p) [] h = absurd (omega arith)
pairs_fit (q ∷ p) (c ∷ s) h = rw (pairs_fit p s (omega arith)) (go (fits_sign q c) (fits p (take (length p) s)))
  where
    go : (x r : Bool) → (x && r) ≡ cond x r false
    go true r = refl
    go false r = refl
