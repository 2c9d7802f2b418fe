-- The totals of a key's position, looked up at its place.
use Rattle.std.specs.Prelude.{◌≡◌, Bool, List, ℕ, suc, ◌+◌, ◌*◌, ◌≤◌, ◌<◌, ◌^◌, Option, Some, None, is_some, unwrap_or}
use Rattle.std.proofs.Math.Path.{refl}
use Rattle.std.proofs.Common.{sym, ap, ◌∙◌, arith, lit<, drop_of_length-le}
use Rattle.std.proofs.Math.Bool.{true, false}
use Rattle.std.proofs.Math.Dec.{leb}
use Rattle.std.proofs.Math.ListN.{length, drop}
use borrow.Author.Tests.{leb-true, leb-false}
use Rattle.rules.specs.Engine.{Key, Position, position_of, is_open}
use Rattle.rules.specs.Text.{is_some as is_some_of}
use Rattle.rules.specs.Area.{decode, holds, positions_place, record_size}
use Rattle.laws.specs.Tests.{never}
use Rattle.engine_laws.specs.Positions.{found_same}
use Rattle.position.specs.declared.Key as K
use Rattle.position.specs.declared.Position as P
use Rattle.position.specs.Values.{key_value, position_value, empty}
use Rattle.engine.specs.declared.header.Header.{Header}
use Rattle.engine.specs.Header.{HeaderOf}
use Rattle.engine.specs.Positions.{nth_position, PositionAt}
use Rattle.engine.specs.Places.{position, is_first, PlaceOf}
use Rattle.engine.specs.Records.{Many, many, positions_from_lem}

-- what a position begins with where none is open
abbrev pub begun : K.Key → Option P.Position → P.Position
begun k r = unwrap_or r (empty k)

-- r has the totals of the position of a key, if it is open; each of six bytes
pub record TotalsOf (ps : List Position) (k : K.Key) (r : Option P.Position) : Type 0 where
  pub opens : is_some r ≡ is_open (key_value k) ps
  pub transferred : (begun k r).transferred ≡ (position_of (key_value k) ps).transferred
  pub detailed : (begun k r).detailed ≡ (position_of (key_value k) ps).detailed
  pub transferred_small : (begun k r).transferred < 2 ^ 48
  pub detailed_small : (begun k r).detailed < 2 ^ 48

-- r is that position
pub record LookedUp (ps : List Position) (k : K.Key) (r : Option P.Position) : Type 0 where
  pub totals : TotalsOf ps k r
  pub same : position_value (begun k r) ≡ position_of (key_value k) ps

looked_up : {ps : List Position} {k : K.Key} {r : Option P.Position} → is_some r ≡ is_open (key_value k) ps → position_value (begun k r) ≡ position_of (key_value k) ps → (begun k r).transferred < 2 ^ 48 → (begun k r).detailed < 2 ^ 48 → LookedUp ps k r
looked_up o e t d = record {
  totals = record { opens = o; transferred = ap (λ (y : Position). y.transferred) e; detailed = ap (λ (y : Position). y.detailed) e; transferred_small = t; detailed_small = d };
  same = e;
}

-- an open position stands at its place
pub record PositionFound (a : List ℕ) (n i : ℕ) (k : Key) : Type 0 where
  pub inside : i < n
  pub is : position_of k (decode a).positions ≡ nth_position a i

module _ (a : List ℕ) (n i : ℕ) (k : Key) (m : Many a n) (p : PlaceOf k (decode a).positions i) where
  pub found : is_first k (drop i (decode a).positions) ≡ true → PositionFound a n i k
  unfolding is_first
  found f = go (leb n i) refl
    where
      go : (t : Bool) → leb n i ≡ t → PositionFound a n i k
      go true e =
          let l : length (decode a).positions ≤ i = omega (arith, m.same, leb-true n i e) in
          never (rw (drop_of_length-le (decode a).positions l) at f)
      go false e =
          let l : i < n = leb-false n i e in
          let c : drop i (decode a).positions ≡ _ = positions_from_lem a n i m l in
          record { inside = l; is = p.found ∙ rw (c, found_same (position k 0 0) (nth_position a i) (drop (suc i) (decode a).positions) (rw c at f)) }

module _ (a : List ℕ) (x : Header) (i : ℕ) (k : K.Key) (s : is_some_of (holds a) ≡ true) (n : HeaderOf a x) (p : PlaceOf (key_value k) (decode a).positions i) (t : Bool) (e : t ≡ is_first (key_value k) (drop i (decode a).positions)) where
  module _ (h : t ≡ true) where
    here : PositionFound a x.positions i (key_value k)
    here = found a x.positions i (key_value k) (many a x s n) p (sym e ∙ h)

    pub found_place : i < 32
    found_place = omega (arith, here.inside, n.positions_few)

    pub totals_found : (q : P.Position) → PositionAt a (positions_place + record_size * i) q → LookedUp (decode a).positions k (Some q)
    totals_found q v = looked_up (sym (p.opens ∙ sym e ∙ h)) (v.value ∙ sym here.is) v.transferred v.detailed

  pub totals_missing : t ≡ false → LookedUp (decode a).positions k None
  totals_missing h = looked_up (sym (p.opens ∙ sym e ∙ h)) (sym (p.missing (sym e ∙ h))) (lit< tt) (lit< tt)
