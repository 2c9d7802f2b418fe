-- Numbers printed with their sign, as the machine's 64 bits hold them.
use Rattle.std.specs.Prelude.{◌≡◌, refl, true, false, ◌++◌, ℤ, pos, negsuc, unsigned_abs, ℕ, zero, suc, ◌+◌, ◌<◌, ◌^◌, T, ◌+ℤ◌, ◌-ℤ◌, nat_abs}
use Rattle.std.proofs.Common.{arith, sym, ltb-true, SFits, to_z, of_z, to_z-of_z, ap, ◌∙◌, zero-add, add-one, Fits}
use Rattle.std.proofs.Math.IntN.{+ℤ_one, suc_ℤ}
use Rattle.std.specs.Int.Signed.{lt_z, non_neg, mag}
use Rattle.std.specs.Int.{w64}
use Rattle.rules.specs.Text.{ascii, decimal}
use Rattle.rules.specs.Replay.{signed}
use Rattle.put.specs.declared.parts.Writer.{Writer}
use Rattle.put.specs.Writes.{Writes, writes_then}
use Rattle.laws.specs.Tests.{never}

-- a number below 0, and its size
pub record Below (z : ℤ) (r : ℕ) : Type 0 where
  pub printed : ascii "-" ++ decimal r ≡ signed z

-- one more, and what is left of 0 then
step_up : (z : ℤ) → mag z < 2 ^ 63 → lt_z z (pos 0) ≡ true → mag (z +ℤ pos 1) < 2 ^ 63
step_up (pos n) f h = absurd (omega (arith, ltb-true n 0 h))
step_up (negsuc n) f h = rw (+ℤ_one (negsuc n)) (go n f)
  where
    go : (n : ℕ) → n < 2 ^ 63 → mag (suc_ℤ (negsuc n)) < 2 ^ 63
    go zero l = omega arith
    go (suc n) l = omega arith

left_of : (z : ℤ) → lt_z z (pos 0) ≡ true → pos 0 -ℤ (z +ℤ pos 1) ≡ pos (mag z)
left_of (pos n) h = absurd (omega (arith, ltb-true n 0 h))
left_of (negsuc n) h = rw (+ℤ_one (negsuc n)) (go n)
  where
    go : (n : ℕ) → pos 0 -ℤ suc_ℤ (negsuc n) ≡ pos n
    go zero = refl
    go (suc n) = ap pos (zero-add (suc n))

size_of : (z : ℤ) → lt_z z (pos 0) ≡ true → ascii "-" ++ decimal (mag z + 1) ≡ signed z
unfolding signed
size_of (pos n) h = absurd (omega (arith, ltb-true n 0 h))
size_of (negsuc n) h = rw (add-one n) refl

module _ (z : ℤ) (f : SFits w64 z) (h : lt_z z (pos 0) ≡ true) where
  pub up_fits : SFits w64 (to_z w64 (of_z w64 z) +ℤ pos 1)
  up_fits = rw (to_z-of_z f) record { sfits = step_up z f.sfits h }

  down_is : pos 0 -ℤ to_z w64 (of_z w64 (to_z w64 (of_z w64 z) +ℤ pos 1)) ≡ pos (mag z)
  down_is = rw (to_z-of_z up_fits, to_z-of_z f) (left_of z h)

  pub down_fits : SFits w64 (pos 0 -ℤ to_z w64 (of_z w64 (to_z w64 (of_z w64 z) +ℤ pos 1)))
  down_fits = rw down_is record { sfits = f.sfits }

  back_is : to_z w64 (of_z w64 (pos 0 -ℤ to_z w64 (of_z w64 (to_z w64 (of_z w64 z) +ℤ pos 1)))) ≡ pos (mag z)
  back_is = to_z-of_z down_fits ∙ down_is

  pub size_cast : T (non_neg (to_z w64 (of_z w64 (pos 0 -ℤ to_z w64 (of_z w64 (to_z w64 (of_z w64 z) +ℤ pos 1)))))) × Fits w64 (nat_abs (to_z w64 (of_z w64 (pos 0 -ℤ to_z w64 (of_z w64 (to_z w64 (of_z w64 z) +ℤ pos 1))))))
  size_cast = rw back_is (tt, record { fits = omega (arith, f.sfits) })

  pub size_fits : Fits w64 (nat_abs (to_z w64 (of_z w64 (pos 0 -ℤ to_z w64 (of_z w64 (to_z w64 (of_z w64 z) +ℤ pos 1))))) + 1)
  size_fits = rw back_is record { fits = omega (arith, f.sfits) }

  pub size_below : Below z (nat_abs (to_z w64 (of_z w64 (pos 0 -ℤ to_z w64 (of_z w64 (to_z w64 (of_z w64 z) +ℤ pos 1))))) + 1)
  size_below = rw back_is record { printed = size_of z h }

up_from : (z : ℤ) → lt_z z (pos 0) ≡ false → z ≡ pos (nat_abs z)
up_from (pos n) h = refl
up_from (negsuc n) h = never (sym h)

abs_fits : (z : ℤ) → mag z < 2 ^ 63 → nat_abs z < 2 ^ 64
abs_fits (pos n) h = omega arith
abs_fits (negsuc n) h = omega arith

below : (z : ℤ) → lt_z z (pos 0) ≡ true → ascii "-" ++ decimal (unsigned_abs z) ≡ signed z
unfolding signed
below (pos n) h = absurd (omega (arith, ltb-true n 0 h))
below (negsuc n) h = refl

above : (z : ℤ) → lt_z z (pos 0) ≡ false → decimal (unsigned_abs z) ≡ signed z
unfolding signed
above (pos n) h = refl
above (negsuc n) h = never (sym h)

module _ (z : ℤ) (f : SFits w64 z) (h : lt_z (to_z w64 (of_z w64 z)) (pos 0) ≡ false) where
  above_is : z ≡ pos (nat_abs z)
  above_is = up_from z (rw (to_z-of_z f) at h)

  pub print_cast : T (non_neg (to_z w64 (of_z w64 z))) × Fits w64 (nat_abs (to_z w64 (of_z w64 z)))
  print_cast = rw (to_z-of_z f) (rw above_is tt, record { fits = abs_fits z f.sfits })

-- as it is written
module _ (z : ℤ) (f : SFits w64 z) {w₀ w₁ : Writer} where
  pub print_sized : {r : ℕ} → Below (to_z w64 (of_z w64 z)) r → {between : Writer} → Writes (ascii "-") w₀ between → Writes (decimal r) between w₁ → Writes (signed z) w₀ w₁
  print_sized b v w = rw (← to_z-of_z f, ← b.printed) (writes_then v w)

  pub print_below : lt_z (to_z w64 (of_z w64 z)) (pos 0) ≡ true → {between : Writer} → Writes (ascii "-") w₀ between → Writes (decimal (unsigned_abs (to_z w64 (of_z w64 z)))) between w₁ → Writes (signed z) w₀ w₁
  print_below h v w = rw (← below z (rw (to_z-of_z f) at h)) (writes_then v (rw (to_z-of_z f) at w))

  pub print_above : lt_z (to_z w64 (of_z w64 z)) (pos 0) ≡ false → Writes (decimal (unsigned_abs (to_z w64 (of_z w64 z)))) w₀ w₁ → Writes (signed z) w₀ w₁
  print_above h w = rw (← above z (rw (to_z-of_z f) at h)) (rw (to_z-of_z f) at w)
