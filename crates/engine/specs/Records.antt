-- The positions of an area walked from one to the next, up to the place of a key.
use Rattle.std.specs.Prelude.{◌≡◌, refl, Bool, true, false, not, List, ◌∷◌, map, ℕ, zero, suc, ◌+◌, ◌*◌, ◌≤◌, ◌<◌, get_or, take, drop}
use Rattle.std.proofs.Common.{◌∙◌, arith, drop_of_length-le, drop-drop, drop-cons, inl, inr}
use Rattle.std.proofs.lemmas.Bool.{cases_lt}
use Rattle.std.proofs.Math.Bool.{not-not}
use Rattle.std.proofs.Math.ListN.{length}
use Rattle.rules.specs.Text.{is_some}
use Rattle.rules.specs.Engine.{Key, Position, key_before, same_key}
use Rattle.rules.specs.Area.{number_at, position_in, records, decode, holds, area_size, positions_place, many_positions_place, record_size, records_of}
use Rattle.laws.specs.Order.{Sorted, ordered_sorted}
use Rattle.engine_laws.specs.Checked.{reads_length}
use Rattle.engine_laws.specs.Decoded.{decoded_limits}
use Rattle.engine_laws.specs.Positions.{Before, position_order}
use Rattle.engine_laws.specs.Tests.{value_at, key_at}
use Rattle.engine.specs.Front.{UpTo, behind}
use Rattle.engine.specs.Header.{HeaderOf}
use Rattle.engine.specs.declared.header.Header.{Header}
use Rattle.engine.specs.Positions.{nth_position}
use Rattle.engine.specs.Places.{position, is_first, KeysBefore, PlaceOf, before_none, before_more, place_here, place_end}

-- how many positions an area has, which stand in order
pub record Many (a : List ℕ) (n : ℕ) : Type 0 where
  pub same : n ≡ length (decode a).positions
  pub few : n ≤ 32
  pub long : area_size ≤ length a
  pub sorted : Sorted Before (decode a).positions

pub many : (a : List ℕ) (x : Header) → is_some (holds a) ≡ true → HeaderOf a x → Many a x.positions
many a x h n = record { same = n.positions; few = n.positions_few; long = n.long; sorted = ordered_sorted position_order (decode a).positions (decoded_limits a h).order }

-- the i-th of n records
read_at : {A : Type 0} (f : List ℕ → A) (n i : ℕ) (bs : List ℕ) (none : A) → i < n → get_or (map f (records n bs)) i none ≡ f (take record_size (drop (record_size * i) bs))
unfolding records_of
read_at f zero i bs none h = absurd (omega arith)
read_at f (suc n) zero bs none h = refl
read_at f (suc n) (suc i) bs none h =
    let e : record_size * suc i ≡ record_size + record_size * i = omega arith in
    read_at f n i (drop record_size bs) none (omega arith) ∙ rw (e, drop-drop (record_size * i) record_size bs)

-- the i-th of those from a place of an area on
pub read_nth : {A : Type 0} (f : List ℕ → A) (a : List ℕ) (n at i : ℕ) (none : A) → i < length (map f (records n (drop at a))) → get_or (map f (records n (drop at a))) i none ≡ value_at f a (at + record_size * i)
unfolding value_at
read_nth f a n at i none h = let m : length (map f (records n (drop at a))) ≡ n = reads_length f n (drop at a) in read_at f n i (drop at a) none (rw m at h) ∙ rw (drop-drop (record_size * i) at a)

nth_read : (a : List ℕ) (i : ℕ) (none : Position) → i < length (decode a).positions → get_or (decode a).positions i none ≡ nth_position a i
unfolding decode
nth_read a i none h = read_nth position_in a (number_at a many_positions_place 1) positions_place i none h

module _ (a : List ℕ) (n i : ℕ) (m : Many a n) where
  pub positions_from_lem : i < n → drop i (decode a).positions ≡ nth_position a i ∷ drop (suc i) (decode a).positions
  positions_from_lem h =
      let l : i < length (decode a).positions = omega (arith, m.same) in
      drop-cons (decode a).positions i (nth_position a i) l ∙ rw (nth_read a i (nth_position a i) l)

  pub inside : i < n → positions_place + record_size * i + record_size ≤ length a
  inside h = omega (arith, m.few, m.long)

  module _ (k : Key) where
    -- the walk to the place of a key
    module _ (g : KeysBefore k (decode a).positions i) where
      pub walk_end : n ≤ i → PlaceOf k (decode a).positions i
      walk_end h = place_end g (omega (arith, m.same))

      module _ (t : Bool) (h : i < n) (p : ℕ) (w : p ≡ positions_place + record_size * i) (l : Key) (f : l ≡ key_at a p) (e : t ≡ not (key_before l k)) where
        here : key_before (get_or (decode a).positions i (position k 0 0)).key k ≡ not t
        unfolding value_at position_in
        here = rw (nth_read a i (position k 0 0) (omega (arith, m.same)), ← w, ← f, e, not-not)

        pub walk_on : t ≡ false → KeysBefore k (decode a).positions (i + 1)
        walk_on d = before_more g (omega (arith, m.same)) (here ∙ rw d)

        pub walk_here : t ≡ true → PlaceOf k (decode a).positions i
        walk_here d = place_here g (omega (arith, m.same)) (here ∙ rw d)

    -- is the position there that of a key?
    pub first_none : n ≤ i → false ≡ is_first k (drop i (decode a).positions)
    unfolding is_first
    first_none h = let l : length (decode a).positions ≤ i = omega (arith, m.same) in rw (drop_of_length-le (decode a).positions l)

    pub first_is : (t : Bool) → i < n → (p : ℕ) → p ≡ positions_place + record_size * i → (l : Key) → l ≡ key_at a p → t ≡ same_key l k → t ≡ is_first k (drop i (decode a).positions)
    unfolding is_first value_at position_in
    first_is t h p w l f e = rw (positions_from_lem h, ← w, ← f) e

pub walk_start : (a : List ℕ) (n : ℕ) (k : Key) → Many a n → KeysBefore k (decode a).positions 0
walk_start a n k m = before_none k (decode a).positions m.sorted

-- the walk as a count of those before it
module _ (a : List ℕ) (n : ℕ) (k : Key) (m : Many a n) {post : ℕ → Bool → Type 0} (t : (i : ℕ) (q : Bool) → i < n → post i q → q ≡ key_before (key_at a (positions_place + record_size * i)) k) {r : ℕ} (u : UpTo post n r) where
  walked : KeysBefore k (decode a).positions r
  walked = behind u (KeysBefore k (decode a).positions) (walk_start a n k m) (λ i h p g. walk_on a n i m k g false h _ refl _ refl (rw (← t i true h p) refl) refl)

  pub place_told : PlaceOf k (decode a).positions r
  place_told = elim (cases_lt r n) [
    | inl h ↦ walk_here a n r m k walked true h _ refl _ refl (rw (← t r false h (u.stopped h)) refl) refl
    | inr h ↦ walk_end a n r m k walked h
  ]

pub ruleset placing = (inside, walk_start, walk_end, walk_on, walk_here, place_told, first_none, first_is)
