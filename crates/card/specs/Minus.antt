-- The difference of two numbers as an integer, and as the machine's 64 bits.
use Rattle.std.specs.Prelude.{◌≡◌, refl, Bool, true, false, cond, ℕ, zero, suc, ◌+◌, ◌-◌, ◌≤◌, ◌<◌, ◌^◌, ltb, pos, negsuc, ◌-ℤ◌, ℤ}
use Rattle.std.proofs.Common.{ap, ◌∙◌, arith, le-ltb, SFits, to_z, of_z, to_z-of_z, lt-ltb}
use Rattle.std.proofs.Math.IntN.{sub_ℕ}
use Rattle.std.specs.Int.Signed.{mag}
use Rattle.std.specs.Int.{w64}
use Rattle.std.proofs.Math.Facts.{to_z_pos}

pub minus_le : (a b : ℕ) → b ≤ a → pos (a - b) ≡ sub_ℕ a b
minus_le a b h = rw (le-ltb a b h) refl

below : (n k : ℕ) → n ≡ suc k → pos 0 -ℤ pos n ≡ negsuc k
below n k e = rw e (rw (lt-ltb 0 (suc k) (omega arith)) (ap negsuc (omega arith)))

pub minus_lt : (a b : ℕ) → a < b → pos 0 -ℤ pos (b - a) ≡ sub_ℕ a b
minus_lt a b h = below (b - a) (b - suc a) (omega arith) ∙ rw (lt-ltb a b h) refl

small : (a b : ℕ) → a < 2 ^ 62 → a - b < 2 ^ 63
small a b h = omega arith

-- as the machine's 64 bits
pub difference_up : (a b : ℕ) → a < 2 ^ 62 → b ≤ a → to_z w64 (a - b) ≡ sub_ℕ a b
difference_up a b h k = to_z_pos w64 (small a b h) ∙ minus_le a b k

pub down_fits : (a b : ℕ) → b < 2 ^ 62 → a < b → SFits w64 (pos 0 -ℤ to_z w64 (b - a))
down_fits a b h k = rw (to_z_pos w64 (small b a h), below (b - a) (b - suc a) (omega arith)) record { sfits = omega arith }

pub difference_down : (a b : ℕ) → b < 2 ^ 62 → a < b → to_z w64 (of_z w64 (pos 0 -ℤ to_z w64 (b - a))) ≡ sub_ℕ a b
difference_down a b h k = to_z-of_z (down_fits a b h k) ∙ ap (λ (z : ℤ). pos 0 -ℤ z) (to_z_pos w64 (small b a h)) ∙ minus_lt a b k

sub_pos : (a b : ℕ) → pos a -ℤ pos b ≡ sub_ℕ a b
sub_pos a zero = let e : a + 0 ≡ a - 0 = omega arith in ap pos e ∙ minus_le a 0 (omega arith)
sub_pos a (suc k) = refl

-- a difference of sums has room to spare
pub difference_small : (a b : ℕ) → a < 2 ^ 62 → b < 2 ^ 62 → mag (sub_ℕ a b) < 2 ^ 63
difference_small a b h k = go (ltb a b)
  where
    go : (t : Bool) → mag (cond t (negsuc (b - suc a)) (pos (a - b))) < 2 ^ 63
    go true = omega arith
    go false = omega arith

-- as the machine's 64 bits
module _ (a b : ℕ) (h : a < 2 ^ 62) (k : b < 2 ^ 62) where
  machine : to_z w64 a -ℤ to_z w64 b ≡ sub_ℕ a b
  machine = let l : a < 2 ^ 63 = omega arith in let m : b < 2 ^ 63 = omega arith in rw (to_z_pos w64 l, to_z_pos w64 m) (sub_pos a b)

  pub difference_fits : SFits w64 (to_z w64 a -ℤ to_z w64 b)
  difference_fits = rw machine record { sfits = difference_small a b h k }

  pub difference_is : to_z w64 (of_z w64 (to_z w64 a -ℤ to_z w64 b)) ≡ sub_ℕ a b
  difference_is = to_z-of_z difference_fits ∙ machine
