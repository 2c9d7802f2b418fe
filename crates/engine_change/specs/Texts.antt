-- Texts and lengths written one behind the other, with zeros behind the last.
use Rattle.std.specs.Prelude.{◌≡◌, List, [], ◌∷◌, ◌++◌, ℕ, ◌-◌, length}
use Rattle.std.proofs.Common.{append_assoc, arith, length-append}
use Rattle.rules.specs.Text.{bytes}
use Rattle.rules.specs.Area.{zeros, padded, joined}
use Rattle.laws.specs.Digits.{places_length}
use Rattle.put.specs.declared.parts.Writer.{Writer}
use Rattle.put.specs.Writes.{Writes, writes_then}

-- a part of a text and the zeros behind it
pub padded_wrote : (n : ℕ) (cs : List ℕ) {w₀ w₁ w₂ : Writer} → Writes cs w₀ w₁ → Writes (zeros (n - length cs)) w₁ w₂ → Writes (padded n cs) w₀ w₂
unfolding padded
padded_wrote n cs v w = writes_then v w

-- in room for n bytes: the first, and the others in the room that it leaves
first_apart : (n : ℕ) (x : List ℕ) (xs : List (List ℕ)) → padded n (joined (x ∷ xs)) ≡ x ++ padded (n - length x) (joined xs)
unfolding padded joined
first_apart n x xs = let e : n - length (x ++ joined xs) ≡ n - length x - length (joined xs) = omega (arith, length-append x (joined xs)) in rw (e, append_assoc)

module _ (n : ℕ) (xs : List (List ℕ)) {w₀ w₁ w₂ : Writer} where
  pub text_wrote : (x : List ℕ) → Writes x w₀ w₁ → Writes (padded (n - length x) (joined xs)) w₁ w₂ → Writes (padded n (joined (x ∷ xs))) w₀ w₂
  text_wrote x v w = rw (first_apart n x xs) (writes_then v w)

  pub length_wrote : (v : ℕ) → Writes (bytes 2 v) w₀ w₁ → Writes (padded (n - 2) (joined xs)) w₁ w₂ → Writes (padded n (joined (bytes 2 v ∷ xs))) w₀ w₂
  length_wrote v u w = text_wrote (bytes 2 v) u (rw places_length w)

-- no more of them
pub none_wrote : (n : ℕ) {w₀ w₁ : Writer} → Writes (zeros n) w₀ w₁ → Writes (padded n (joined [])) w₀ w₁
unfolding padded joined
none_wrote n w = let e : n - 0 ≡ n = omega arith in rw e w
