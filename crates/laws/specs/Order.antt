-- Lists in order by a relation that goes from one to the next and on: each stands before all behind it. Positions and references are such lists.
use Rattle.std.specs.Prelude.{◌≡◌, Bool, true}
use Rattle.std.proofs.Math.Path.{refl}
use mathlib.Core.List.{List, [], ◌∷◌}
use Rattle.rules.specs.Text.{ordered}
use Rattle.laws.specs.Tests.{cond_left, cond_right, cond_both}
use Rattle.laws.specs.All.{All, All.none, All.more}

-- a test of the order, and what it says
pub record Ordering {A : Type 0} (before : A → A → Bool) (Before : A → A → Type 0) : Type 0 where
  pub says : (x y : A) → before x y ≡ true → Before x y
  pub tests : {x y : A} → Before x y → before x y ≡ true
  pub chains : {x y z : A} → Before x y → Before y z → Before x z

pub data Sorted {A : Type 0} (Before : A → A → Type 0) : List A → Type 0 where
  empty : Sorted Before []
  next : {x : A} {xs : List A} → All (Before x) xs → Sorted Before xs → Sorted Before (x ∷ xs)

module _ {A : Type 0} {before : A → A → Bool} {Before : A → A → Type 0} (o : Ordering before Before) where
  pub all_before : {x y : A} {zs : List A} → Before x y → All (Before y) zs → All (Before x) zs
  all_before h none = none
  all_before h (more k s) = more (o.chains h k) (all_before h s)

  pub ordered_sorted : (xs : List A) → ordered before xs ≡ true → Sorted Before xs
  unfolding ordered
  ordered_sorted [] h = empty
  ordered_sorted (x ∷ []) h = next none empty
  ordered_sorted (x ∷ y ∷ zs) h = go (o.says x y (cond_left _ _ h)) (ordered_sorted (y ∷ zs) (cond_right (before x y) _ h))
    where
      go : Before x y → Sorted Before (y ∷ zs) → Sorted Before (x ∷ y ∷ zs)
      go k (next a s) = next (more k (all_before k a)) (next a s)

  pub sorted_ordered : {xs : List A} → Sorted Before xs → ordered before xs ≡ true
  unfolding ordered
  sorted_ordered empty = refl
  sorted_ordered (next none s) = refl
  sorted_ordered (next (more k a) s) = cond_both _ _ (o.tests k) (sorted_ordered s)
