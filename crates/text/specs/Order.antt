-- Two texts compared in byte order, byte by byte: what is left of both decides. A law for each way on and out of the loop.
use Rattle.std.specs.Prelude.{◌≡◌, refl, false, not, List, [], ◌∷◌, ℕ, suc, ◌+◌, ◌≤◌, ◌<◌, min, leb, nat_lt, length, get_or, drop}
use Rattle.std.proofs.Common.{sym, ◌∙◌, arith, add-one, drop-cons, drop_of_length-le, eq-eqb, ne_eqb, ◌⊎◌, inl, inr}
use Rattle.std.proofs.lemmas.Bool.{cases_lt}
use borrow.Author.Tests.{le-leb, lt-leb}
use Rattle.rules.specs.Text.{text_before}

one_left : (s : List ℕ) (k : ℕ) → k < length s → drop k s ≡ get_or s k 0 ∷ drop (k + 1) s
one_left s k h = rw (add-one k) (drop-cons s k 0 h)

none_before : (s : List ℕ) → text_before s [] ≡ false
unfolding text_before
none_before [] = refl
none_before (c ∷ s) = refl

less_not : (c d : ℕ) → nat_lt c d ≡ not (leb d c)
less_not c d = elim (cases_lt c d) [ inl h ↦ rw (le-leb (suc c) d (omega arith), lt-leb d c h) refl | inr h ↦ rw (lt-leb (suc c) d (omega arith), le-leb d c h) refl ]

module _ (s t : List ℕ) (k : ℕ) (inv : text_before (drop k s) (drop k t) ≡ text_before s t) where
  module _ (h : k < length s) (l : k < length t) where
    pub order_differs : (get_or s k 0 ≡ get_or t k 0 → ⊥) → nat_lt (get_or s k 0) (get_or t k 0) ≡ text_before s t
    unfolding text_before
    order_differs n = less_not (get_or s k 0) (get_or t k 0) ∙ (rw (one_left s k h, one_left t k l, ne_eqb (get_or s k 0) (get_or t k 0) n) at inv)

    pub order_more : get_or s k 0 ≡ get_or t k 0 → text_before (drop (k + 1) s) (drop (k + 1) t) ≡ text_before s t
    unfolding text_before
    order_more e = rw (one_left s k h, one_left t k l, eq-eqb (get_or s k 0) (get_or t k 0) e) at inv

  pub order_end : k ≤ min (length s) (length t) → min (length s) (length t) ≤ k → nat_lt (length s) (length t) ≡ text_before s t
  unfolding text_before
  order_end h l = less_not (length s) (length t) ∙ go (cases_lt (length s) (length t))
    where
      go : (length s < length t) ⊎ (length t ≤ length s) → not (leb (length t) (length s)) ≡ text_before s t
      go (inl a) = rw (lt-leb (length t) (length s) a) (rw (drop_of_length-le s {i = k} (omega arith), one_left t k (omega arith)) at inv)
      go (inr a) = rw (le-leb (length t) (length s) a) (sym (none_before (drop k s)) ∙ (rw (drop_of_length-le t {i = k} (omega arith)) at inv))

pub ruleset ordering = (order_differs, order_more, order_end)
