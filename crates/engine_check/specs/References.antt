-- A reference's record: its 16 bytes by the text at their front, and its sender and text against those of the next one.
use Rattle.std.specs.Prelude.{◌≡◌, Bool, not, ◌&&◌, List, ℕ, ◌+◌, ◌-◌, ◌≤◌, leb, length, take, drop}
use Rattle.std.specs.List.{prefix_len}
use Rattle.std.proofs.Math.Path.{refl}
use Rattle.std.proofs.Common.{zero-add, arith}
use Rattle.std.proofs.Math.Seq.{take-length}
use Rattle.rules.specs.Text.{is_text, every}
use Rattle.rules.specs.Engine.{slashed}
use Rattle.rules.specs.Area.{number_at, record_size}
use Rattle.laws.specs.Parts.{cut, cut_all}
use Rattle.laws.specs.Places.{Passed}
use Rattle.laws.specs.Front.{front_passed_all}
use Rattle.engine_laws.specs.Records.{cut_is}
use Rattle.engine_laws.specs.Tests.{is_zero, text_fits, precedes_by, filed_test}
use Rattle.engine_laws.specs.Texts.{ended_fits, ended_text}

-- the n bytes are the front, and those behind them all that is left
module _ (s : List ℕ) (n : ℕ) (l : length s ≡ 16) where
  front : cut s 0 n ≡ take n s
  unfolding cut
  front = refl

  behind : n ≤ 16 → cut s n (n + (16 - n)) ≡ drop n s
  unfolding cut
  behind h = let e : n + (16 - n) ≡ length s = omega (arith, l) in rw (e, take-length s)

  pub ended_is : n ≤ 16 → ended_fits s 0 n ≡ (leb 1 n && (not (slashed (take n s)) && every is_zero (drop n s)))
  unfolding ended_fits
  ended_is h = rw (zero-add, front, behind h)

  -- counted off the front
  pub text_told : n ≡ prefix_len is_text s → {r : Bool} → r ≡ ended_fits s 0 n → r ≡ text_fits s
  text_told e {r} g =
      let w : Passed is_text s 0 16 n = rw l at (front_passed_all is_text s n e) in
      let c : cut s 0 16 ≡ s = rw l at (cut_all s) in
      rw c at (ended_text s 0 n (omega (arith, l)) w r g)

-- both as they were read
pub filed_told : (a : List ℕ) (p : ℕ) {x y : ℕ} {s t : List ℕ} → x ≡ number_at a p 8 → s ≡ cut a (p + 8) (p + 8 + 16) → y ≡ number_at a (p + record_size) 8 → t ≡ cut a (p + record_size + 8) (p + record_size + 8 + 16)
    → {r : Bool} → r ≡ precedes_by x s y t → r ≡ filed_test a p
unfolding filed_test
filed_told a p e f g h u = rw (cut_is a p 8, cut_is a (p + record_size) 8, ← e, ← f, ← g, ← h) u
