-- Where a function of lists puts an element: behind those that it passes one by one, before the first that it does not pass or in its place.
use Rattle.std.specs.Prelude.{◌≡◌, refl, ℕ, suc, ◌+◌, ◌≤◌, ◌<◌, length, get_or, take}
use Rattle.std.proofs.Common.{◌∙◌, add-one, arith, take-suc, drop-cons}
use mathlib.Core.List.{List, [], ◌∷◌, ◌++◌, append_assoc}
use Rattle.std.proofs.Math.ListN.{drop, drop_of_length-le}
use Rattle.laws.specs.Sections.{inserted, replaced}

-- the first i are passed
pub record PutBehind {A : Type 0} (f : List A → List A) (xs : List A) (i : ℕ) : Type 0 where
  pub within : i ≤ length xs
  pub left : f xs ≡ take i xs ++ f (drop i xs)

pub put_start : {A : Type 0} (f : List A → List A) (xs : List A) → PutBehind f xs 0
put_start f xs = record { within = omega arith; left = refl }

module _ {A : Type 0} {f : List A → List A} {xs : List A} {i : ℕ} (g : PutBehind f xs i) where
  pub put_end : {x : A} → length xs ≤ i → f [] ≡ x ∷ [] → f xs ≡ inserted i x xs
  unfolding inserted
  put_end h e = let z : drop i xs ≡ [] = drop_of_length-le xs h in g.left ∙ rw (z, e)

  -- the next one is passed too, or the element is put before it, or in its place
  module _ (d : A) (h : i < length xs) where
    split : drop i xs ≡ get_or xs i d ∷ drop (suc i) xs
    split = drop-cons xs i d h

    pub put_on : f (get_or xs i d ∷ drop (suc i) xs) ≡ get_or xs i d ∷ f (drop (suc i) xs) → PutBehind f xs (i + 1)
    put_on e =
        let m : take (i + 1) xs ≡ take i xs ++ get_or xs i d ∷ [] = rw add-one (take-suc xs i d h) in
        let n : drop (i + 1) xs ≡ drop (suc i) xs = rw add-one in
        record { within = omega arith; left = g.left ∙ rw (split, e, m, n, append_assoc) }

    pub put_before : {x : A} → f (get_or xs i d ∷ drop (suc i) xs) ≡ x ∷ get_or xs i d ∷ drop (suc i) xs → f xs ≡ inserted i x xs
    unfolding inserted
    put_before e = g.left ∙ rw (split, e)

    pub put_over : {x : A} → f (get_or xs i d ∷ drop (suc i) xs) ≡ x ∷ drop (suc i) xs → f xs ≡ replaced i x xs
    unfolding replaced
    put_over e = g.left ∙ rw (split, e)
