-- The records of an area, one behind the other, each read off its 24 bytes; its positions.
use Rattle.std.specs.Prelude.{◌≡◌, List, [], ◌∷◌, map, drop}
use Rattle.std.proofs.Math.Path.{refl}
use Prim.Native.Nat.{ℕ, zero, suc, ◌+◌, ◌-◌, ◌*◌, ◌≤◌, ◌<◌, ◌^◌}
use Rattle.std.proofs.Math.Nat.{add-zero}
use native.Mathlib.Omega.{arith}
use Rattle.std.proofs.Common.{lit≤, drop-drop}
use Rattle.rules.specs.Engine.{Position}
use Rattle.rules.specs.Area.{key_in, position_in, records, positions_place, date_offset, transferred_offset, detailed_offset, record_size, records_of}
use Rattle.engine_laws.specs.Records.{number_within}
use Rattle.engine_laws.specs.Tests.{value_at, key_at, position_at}
use Rattle.engine.specs.Numbers.{NumberAt}
use Rattle.position.specs.Values.{key_value, position_value}
use Rattle.position.specs.declared.Key as K
use Rattle.position.specs.declared.Position as P

-- what k records from the place p on say
unfoldable pub values_at : {A : Type 0} → (List ℕ → A) → List ℕ → ℕ → ℕ → List A
values_at reads area p zero = []
values_at reads area p (suc k) = value_at reads area p ∷ values_at reads area (p + record_size) k

module _ {A : Type 0} (reads : List ℕ → A) (area : List ℕ) (p : ℕ) where
  pub values_next : (k : ℕ) → 0 < k → values_at reads area p k ≡ value_at reads area p ∷ values_at reads area (p + record_size) (k - 1)
  unfolding values_at
  values_next zero h = absurd (omega arith)
  values_next (suc k) h = let e : suc k - 1 ≡ k = omega arith in rw e

  pub values_none : (k : ℕ) → k ≤ 0 → values_at reads area p k ≡ []
  unfolding values_at
  values_none zero h = refl
  values_none (suc k) h = absurd (omega arith)

-- as the layout says them
pub values_are : {A : Type 0} (reads : List ℕ → A) (area : List ℕ) (p k : ℕ) → map reads (records k (drop p area)) ≡ values_at reads area p k
unfolding values_at value_at records_of
values_are reads area p zero = refl
values_are reads area p (suc k) = rw (drop-drop record_size p area, values_are reads area (p + record_size) k) refl

-- ---- positions by their number

-- the i-th position of an area, and k of them from it on
abbrev pub nth_position : List ℕ → ℕ → Position
nth_position area i = position_at area (positions_place + record_size * i)

abbrev pub positions_from : List ℕ → ℕ → ℕ → List Position
positions_from area i k = values_at position_in area (positions_place + record_size * i) k

module _ (area : List ℕ) (i k : ℕ) where
  pub positions_next : 0 < k → positions_from area i k ≡ nth_position area i ∷ positions_from area (i + 1) (k - 1)
  positions_next h = let e : positions_place + record_size * (i + 1) ≡ positions_place + record_size * i + record_size = omega arith in rw e (values_next position_in area (positions_place + record_size * i) k h)

  pub positions_none : k ≤ 0 → positions_from area i k ≡ []
  positions_none h = values_none position_in area (positions_place + record_size * i) k h

-- ---- a key and a position that were read

-- q is the position at p, its totals of six bytes
pub record PositionAt (area : List ℕ) (p : ℕ) (q : P.Position) : Type 0 where
  pub value : position_value q ≡ position_at area p
  pub transferred : q.transferred < 2 ^ 48
  pub detailed : q.detailed < 2 ^ 48

module _ (area : List ℕ) (p : ℕ) where
  pub key_read : {bank date : ℕ} → NumberAt area p 8 bank → NumberAt area (p + date_offset) 3 date → key_value (record { bank = bank; date = date }) ≡ key_at area p
  unfolding value_at key_in
  key_read b d =
      rw (number_within area p record_size date_offset 3 (lit≤ tt), b.value, d.value, rw add-zero at (number_within area p record_size 0 8 (lit≤ tt)))

  pub position_read : {k : K.Key} {transferred detailed : ℕ} → key_value k ≡ key_at area p → NumberAt area (p + transferred_offset) 6 transferred → NumberAt area (p + detailed_offset) 6 detailed
      → PositionAt area p (record { key = k; transferred = transferred; detailed = detailed })
  unfolding value_at position_in
  position_read k t d = record {
    value = rw (number_within area p record_size transferred_offset 6 (lit≤ tt), number_within area p record_size detailed_offset 6 (lit≤ tt), k, t.value, d.value);
    transferred = t.small;
    detailed = d.small;
  }

pub at_place : {area : List ℕ} {p q : ℕ} {r : P.Position} → p ≡ q → PositionAt area p r → PositionAt area q r
at_place e a = rw (← e) a
