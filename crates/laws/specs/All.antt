-- What holds of each of a list: it holds of each of a part of it, of both of two lists, and of a list to which it is handed on.
use Rattle.std.specs.Prelude.{◌≡◌, refl, Bool, cond, List, [], ◌∷◌, ◌++◌, ℕ, zero, suc, ◌<◌, length, get_or, take, drop}
use Rattle.std.proofs.Math.Bool.{true, false}
use Rattle.std.proofs.Common.{arith}
use Rattle.rules.specs.Text.{passing}

pub data All {A : Type 0} (P : A → Type 0) : List A → Type 0 where
  none : All P []
  more : {x : A} {xs : List A} → P x → All P xs → All P (x ∷ xs)

module _ {A : Type 0} {P : A → Type 0} where
  pub all_take : (n : ℕ) {xs : List A} → All P xs → All P (take n xs)
  all_take zero s = none
  all_take (suc n) none = none
  all_take (suc n) (more p s) = more p (all_take n s)

  pub all_drop : (n : ℕ) {xs : List A} → All P xs → All P (drop n xs)
  all_drop zero s = s
  all_drop (suc n) none = none
  all_drop (suc n) (more p s) = all_drop n s

  pub all_append : {xs ys : List A} → All P xs → All P ys → All P (xs ++ ys)
  all_append none t = t
  all_append (more p s) t = more p (all_append s t)

  pub all_last : {xs : List A} {x : A} → All P xs → P x → All P (xs ++ x ∷ [])
  all_last s p = all_append s (more p none)

  pub all_wider : {Q : A → Type 0} → ((x : A) → P x → Q x) → {xs : List A} → All P xs → All Q xs
  all_wider f none = none
  all_wider f (more {x} p s) = more (f x p) (all_wider f s)

  -- it holds of element i
  pub all_at : (d : A) (i : ℕ) {xs : List A} → All P xs → i < length xs → P (get_or xs i d)
  all_at d i none h = absurd (omega arith)
  all_at d zero (more p s) h = p
  all_at d (suc i) (more p s) h = all_at d i s (omega arith)

  -- it holds of those that pass a test
  pub all_passing : (test : A → Bool) {xs : List A} → All P xs → All P (passing test xs)
  unfolding passing
  all_passing test none = none
  all_passing test (more {x} {xs} p s) = go (test x) (all_passing test s)
    where
      go : (b : Bool) → All P (passing test xs) → All P (cond b (x ∷ passing test xs) (passing test xs))
      go true t = more p t
      go false t = t

-- what holds of everything holds of each of a list
pub all_each : {A : Type 0} {P : A → Type 0} → ((x : A) → P x) → (xs : List A) → All P xs
all_each f [] = none
all_each f (x ∷ xs) = more (f x) (all_each f xs)

-- two tests that agree pass the same of a list
pub passing_same : {A : Type 0} (p q : A → Bool) → ((x : A) → p x ≡ q x) → (xs : List A) → passing p xs ≡ passing q xs
unfolding passing
passing_same p q h [] = refl
passing_same p q h (x ∷ xs) = rw (h x, passing_same p q h xs)
