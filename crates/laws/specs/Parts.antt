-- Parts of a list, told by their ends: what a function reads of a slice, and what is left of it.
use Rattle.std.specs.Prelude.{◌≡◌, refl, ℕ, zero, suc, ◌+◌, ◌-◌, ◌≤◌, ◌<◌, min, length, get_or, take}
use Rattle.std.proofs.Math.Path.{ap}
use Rattle.std.proofs.Common.{◌∙◌, zero-add, suc-add, add-one, length-take, take-append-drop, take-take, take_all, length-take-le, drop-cons}
use mathlib.Core.List.{List, [], ◌∷◌, ◌++◌}
use native.Mathlib.Omega.{arith}
use Rattle.std.proofs.Math.ListN.{drop, length-drop, drop_of_length-le}
use Rattle.std.proofs.Math.Seq.{slice-cons, slice_empty, length-slice, take-nil, take-length, take-suc, drop-drop, get_or-take, get_or-drop}
use Rattle.std.proofs.lemmas.List.{drop-append-le}

-- the bytes from index a up to, and without, index b
unfoldable pub cut : List ℕ → ℕ → ℕ → List ℕ
cut s a b = drop a (take b s)

-- the bytes from index a on
unfoldable pub from : List ℕ → ℕ → List ℕ
from s a = drop a s

take_of_drop : (k a : ℕ) (l : List ℕ) → take k (drop a l) ≡ drop a (take (a + k) l)
take_of_drop k zero l = rw zero-add
take_of_drop k (suc a) [] = rw (take-nil k, take-nil (suc a + k))
take_of_drop k (suc a) (x ∷ xs) = rw suc-add (take_of_drop k a xs)

module _ (s : List ℕ) (a b : ℕ) where
  -- the first byte of a part, and the rest
  pub cut_step : a < b → b ≤ length s → cut s a b ≡ get_or s a 0 ∷ cut s (a + 1) b
  unfolding cut
  cut_step h k = rw (add-one a) (slice-cons a b s 0 h k)

  -- an empty part
  pub cut_done : a ≤ b → b ≤ a → cut s a b ≡ []
  unfolding cut
  cut_done h k = let e : a ≡ b = omega arith in rw e (slice_empty b s)

  -- one byte more at the end
  pub cut_snoc : a ≤ b → b < length s → cut s a (b + 1) ≡ cut s a b ++ get_or s b 0 ∷ []
  unfolding cut
  cut_snoc h k = rw (add-one b, take-suc s b 0 k) (drop-append-le a (take b s) (get_or s b 0 ∷ []) (rw (length-take-le b s (omega arith)) h))

  pub cut_length : b ≤ length s → length (cut s a b) ≡ b - a
  unfolding cut
  cut_length h = length-slice a b s h

  -- wherever it ends, it has no more bytes than the list
  pub cut_size : length (cut s a b) ≡ min b (length s) - a
  unfolding cut
  cut_size = rw (length-drop, length-take)

  -- parts of a part
  pub cut_get : (k : ℕ) → a + k < b → get_or (cut s a b) k 0 ≡ get_or s (a + k) 0
  unfolding cut
  cut_get k h = get_or-drop a (take b s) k 0 ∙ get_or-take b s (a + k) 0 h

  pub cut_take : (k : ℕ) → a + k ≤ b → take k (cut s a b) ≡ cut s a (a + k)
  unfolding cut
  cut_take k h = take_of_drop k a (take b s) ∙ ap (λ (l : List ℕ). drop a l) (take-take (a + k) b s h)

  pub cut_drop : (k : ℕ) → drop k (cut s a b) ≡ cut s (a + k) b
  unfolding cut
  cut_drop k = drop-drop k a (take b s)

  pub cut_cut : (k m : ℕ) → a + m ≤ b → cut (cut s a b) k m ≡ cut s (a + k) (a + m)
  unfolding cut
  cut_cut k m h = ap (λ (l : List ℕ). drop k l) (cut_take m h) ∙ drop-drop k a (take (a + m) s)

-- two bytes
pub cut_two : (s : List ℕ) (a : ℕ) → a + 2 ≤ length s → cut s a (a + 2) ≡ get_or s a 0 ∷ get_or s (a + 1) 0 ∷ []
cut_two s a l = rw (cut_step s a (a + 2) (omega arith) l, cut_step s (a + 1) (a + 2) (omega arith) l, cut_done s (a + 1 + 1) (a + 2) (omega arith) (omega arith))

-- two parts, one behind the other
pub cut_join : (s : List ℕ) (a k b : ℕ) → a + k ≤ b → cut s a (a + k) ++ cut s (a + k) b ≡ cut s a b
cut_join s a k b h = rw (← cut_take s a b k h, ← cut_drop s a b k) (take-append-drop k (cut s a b))

-- the whole list
pub cut_all : (s : List ℕ) → cut s 0 (length s) ≡ s
unfolding cut
cut_all s = take-length s

-- what is left: its first byte and the rest; nothing; parts of it
module _ (s : List ℕ) (a : ℕ) where
  pub from_step : a < length s → from s a ≡ get_or s a 0 ∷ from s (a + 1)
  unfolding from
  from_step h = rw (add-one a) (drop-cons s a 0 h)

  pub from_done : length s ≤ a → from s a ≡ []
  unfolding from
  from_done h = drop_of_length-le s h

  pub from_length : length (from s a) ≡ length s - a
  unfolding from
  from_length = length-drop a s

  pub from_take : (k : ℕ) → take k (from s a) ≡ cut s a (a + k)
  unfolding from cut
  from_take k = take_of_drop k a s

  pub from_drop : (k : ℕ) → drop k (from s a) ≡ from s (a + k)
  unfolding from
  from_drop k = drop-drop k a s

  -- all that is left, as a part
  pub from_cut : (b : ℕ) → length s ≤ b → cut s a b ≡ from s a
  unfolding from cut
  from_cut b h = rw (take_all b s h)

pub from_all : (s : List ℕ) → from s 0 ≡ s
unfolding from
from_all s = refl
