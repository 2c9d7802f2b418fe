-- Lines of one form counted one by one: a law for each way on and out of the loop.
use Rattle.std.specs.Prelude.{◌≡◌, Bool, true, false, cond, List, length}
use Rattle.std.proofs.Common.{sym, ◌∙◌, zero-add, mul-suc}
use Prim.Native.Nat.{ℕ, suc, ◌+◌, ◌-◌, ◌*◌, ◌≤◌, ◌<◌}
use native.Mathlib.Omega.{arith}
use Rattle.register_lines.specs.Places.{end_none, leading_from}
use Rattle.register_lines.specs.Forms.{FormOf}

-- r lines of a form stand from a on
pub record LinesFrom (standing : List ℕ → ℕ → Bool) (w : ℕ) (s : List ℕ) (a r : ℕ) : Type 0 where
  pub value : r ≡ leading_from (standing s) w a 40
  pub few : r ≤ 40
  pub room : a + w * r ≤ length s

-- i of them are counted, up to a place
pub record Counting (standing : List ℕ → ℕ → Bool) (w : ℕ) (s : List ℕ) (a i at : ℕ) : Type 0 where
  pub same : i + leading_from (standing s) w at (40 - i) ≡ leading_from (standing s) w a 40
  pub few : i ≤ 40
  pub place : at ≡ a + w * i
  pub within : at ≤ length s

module _ (standing : List ℕ → ℕ → Bool) (w : ℕ) (s : List ℕ) (a : ℕ) where
  pub counting_start : a ≤ length s → Counting standing w s a 0 a
  counting_start h = record { same = zero-add _; few = omega arith; place = sym (end_none w a); within = h }

  module _ (i at : ℕ) (c : Counting standing w s a i at) where
    pub counting_end : 40 ≤ i → LinesFrom standing w s a 40
    unfolding leading_from
    counting_end h =
        let e : i ≡ 40 = omega (arith, c.few) in
        let g : 40 + leading_from (standing s) w at 0 ≡ leading_from (standing s) w a 40 = rw e at c.same in
        record { value = omega (arith, g); few = omega arith; room = rw e at (rw c.place at c.within) }

    module _ (h : i < 40) (t : Bool) (u : t ≡ standing s at) where
      one : i + cond t (suc (leading_from (standing s) w (at + w) (40 - (i + 1)))) 0 ≡ leading_from (standing s) w a 40
      unfolding leading_from
      one = let e : 40 - i ≡ suc (40 - (i + 1)) = omega arith in rw u (rw e at c.same)

      pub counting_stop : t ≡ false → LinesFrom standing w s a i
      counting_stop d = let g : i + 0 ≡ leading_from (standing s) w a 40 = rw d at one in record { value = omega (arith, g); few = c.few; room = rw c.place at c.within }

      module _ (z : ℕ) (f : FormOf w z standing) (d : t ≡ true) where
        pub counting_room : at + w ≤ length s
        counting_room = f.room s at (sym u ∙ d)

        pub counting_more : Counting standing w s a (i + 1) (at + w)
        counting_more =
            let g : i + suc (leading_from (standing s) w (at + w) (40 - (i + 1))) ≡ leading_from (standing s) w a 40 = rw d at one in
            let n : i + 1 ≡ suc i = omega arith in record {
              same = omega (arith, g);
              few = omega arith;
              place = rw (n, mul-suc w i) (omega (arith, c.place));
              within = counting_room;
            }

pub ruleset counts = (counting_start, counting_end, counting_stop, counting_room, counting_more)
