-- Bytes that all pass a test: of texts joined, of parts, of a wider class.
use Rattle.std.specs.Prelude.{◌≡◌, Bool, ℕ, suc, ◌+◌, ◌-◌, ◌≤◌, ◌<◌, leb, length, get_or, take, drop}
use Rattle.std.proofs.Math.Path.{refl}
use Rattle.std.proofs.Math.Bool.{true, false, cond}
use mathlib.Core.List.{List, [], ◌∷◌, ◌++◌}
use native.Mathlib.Omega.{arith}
use Rattle.std.proofs.Common.{take-append-drop, leb-true}
use Rattle.rules.specs.Text.{every}
use Rattle.laws.specs.Parts.{cut, cut_cut, cut_step}
use Rattle.laws.specs.Tests.{cond_left, cond_right}

module _ (p : ℕ → Bool) where
  pub every_append : (a b : List ℕ) → every p (a ++ b) ≡ cond (every p a) (every p b) false
  unfolding every
  every_append [] b = refl
  every_append (c ∷ a) b = rw (every_append a b) (go (p c))
    where
      go : (q : Bool) → cond q (cond (every p a) (every p b) false) false ≡ cond (cond q (every p a) false) (every p b) false
      go true = refl
      go false = refl

  pub every_join : (a b : List ℕ) → every p a ≡ true → every p b ≡ true → every p (a ++ b) ≡ true
  every_join a b h k = rw (every_append, h, k)

  -- its first n, and the others
  split : (n : ℕ) (a : List ℕ) → every p a ≡ true → cond (every p (take n a)) (every p (drop n a)) false ≡ true
  split n a h = rw (← every_append (take n a) (drop n a), take-append-drop n a) h

  pub every_take : (n : ℕ) (a : List ℕ) → every p a ≡ true → every p (take n a) ≡ true
  every_take n a h = cond_left _ _ (split n a h)

  pub every_drop : (n : ℕ) (a : List ℕ) → every p a ≡ true → every p (drop n a) ≡ true
  every_drop n a h = cond_right (every p (take n a)) _ (split n a h)

  -- a part of a part, and one byte of it
  pub every_within : (s : List ℕ) (a b i j : ℕ) → every p (cut s a b) ≡ true → a ≤ i → i ≤ j → j ≤ b → every p (cut s i j) ≡ true
  unfolding cut
  every_within s a b i j h k l m =
      let e : a + (i - a) ≡ i = omega arith in
      let f : a + (j - a) ≡ j = omega arith in
      rw (e, f) at (rw (cut_cut s a b (i - a) (j - a) (omega arith)) at (every_drop (i - a) (take (j - a) (cut s a b)) (every_take (j - a) (cut s a b) h)))

  pub every_first : (s : List ℕ) (i b : ℕ) → every p (cut s i b) ≡ true → i < b → b ≤ length s → p (get_or s i 0) ≡ true
  unfolding every
  every_first s i b h k l = cond_left _ _ (rw (cut_step s i b k l) at h)

  -- of a narrower class
  pub every_wider : (q : ℕ → Bool) → ((c : ℕ) → p c ≡ true → q c ≡ true) → (a : List ℕ) → every p a ≡ true → every q a ≡ true
  unfolding every
  every_wider q w [] h = refl
  every_wider q w (c ∷ a) h = rw (w c (cond_left (p c) (every p a) h)) (every_wider q w a (cond_right (p c) (every p a) h))

-- ---- the n bytes at a place: a part of them, and one of them, told by numbers

module _ (p : ℕ → Bool) (s : List ℕ) (a n : ℕ) (w : every p (cut s a (a + n)) ≡ true) where
  pub every_front : (m : ℕ) → leb m n ≡ true → every p (cut s a (a + m)) ≡ true
  every_front m h = let l : m ≤ n = leb-true m n h in every_within p s a (a + n) a (a + m) w (omega arith) (omega arith) (omega arith)

  pub every_piece : (k m : ℕ) → leb (k + m) n ≡ true → every p (cut s (a + k) (a + k + m)) ≡ true
  every_piece k m h = let l : k + m ≤ n = leb-true (k + m) n h in every_within p s a (a + n) (a + k) (a + k + m) w (omega arith) (omega arith) (omega arith)

  module _ (l : a + n ≤ length s) where
    pub every_head : leb 1 n ≡ true → p (get_or s a 0) ≡ true
    every_head h = let m : 1 ≤ n = leb-true 1 n h in every_first p s a (a + n) w (omega arith) l

    pub every_at : (k : ℕ) → leb (suc k) n ≡ true → p (get_or s (a + k) 0) ≡ true
    every_at k h =
        let m : suc k ≤ n = leb-true (suc k) n h in
        every_first p s (a + k) (a + n) (every_within p s a (a + n) (a + k) (a + n) w (omega arith) (omega arith) (omega arith)) (omega arith) l

pub ruleset pieces = (every_front, every_piece, every_head, every_at)
