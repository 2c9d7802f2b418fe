-- The place of a key among positions in their order: what is booked there stands in the position's place if it is open, else before the first one behind it.
use Rattle.std.specs.Prelude.{◌≡◌, Bool, ℕ, suc, ◌+◌, ◌≤◌, ◌<◌, length, get_or}
use Rattle.std.proofs.Math.Path.{refl}
use Rattle.std.proofs.Common.{◌∙◌, arith}
use Rattle.std.proofs.Math.Bool.{true, false}
use mathlib.Core.List.{List, [], ◌∷◌}
use Rattle.std.proofs.Math.Numerals.{add-one}
use Rattle.std.proofs.Math.ListN.{drop, drop_of_length-le}
use Rattle.std.proofs.Math.Seq.{drop-cons}
use Rattle.rules.specs.Text.{any}
use Rattle.rules.specs.Engine.{Key, Position, key_before, same_key, position_of, is_open, booked}
use Rattle.laws.specs.Order.{Sorted, Sorted.next}
use Rattle.rule_laws.specs.Keys.{test_before, before_other, before_first, same_keys, gives_way}
use Rattle.laws.specs.Sections.{inserted, replaced}
use Rattle.laws.specs.Putting.{PutBehind, put_start, put_on, put_end, put_before, put_over}
use Rattle.laws.specs.Tests.{never}
use Rattle.engine_laws.specs.Positions.{Before, booked_same, booked_ahead, booked_behind, open_same, open_other, found_same, found_other, not_open, not_found, first_before}

-- the position of a key, with two totals
abbrev pub position : Key → ℕ → ℕ → Position
position k transferred detailed = record { key = k; transferred = transferred; detailed = detailed }

-- do positions begin with that of a key?
unfoldable pub is_first : Key → List Position → Bool
is_first k [] = false
is_first k (p ∷ ps) = same_key p.key k

-- i positions stand before a key: its position is to be booked, and found, among the others
pub record KeysBefore (k : Key) (ps : List Position) (i : ℕ) : Type 0 where
  pub within : i ≤ length ps
  pub sorted : Sorted Before (drop i ps)
  pub left : (t d : ℕ) → PutBehind (booked (position k t d)) ps i
  pub found : position_of k ps ≡ position_of k (drop i ps)
  pub opens : is_open k ps ≡ is_open k (drop i ps)

-- i is the place of the key's position: raised there if it is open, else put there
pub record PlaceOf (k : Key) (ps : List Position) (i : ℕ) : Type 0 where
  pub within : i ≤ length ps
  pub found : position_of k ps ≡ position_of k (drop i ps)
  pub opens : is_open k ps ≡ is_first k (drop i ps)
  pub missing : is_first k (drop i ps) ≡ false → position_of k ps ≡ position k 0 0
  pub raised : (t d : ℕ) → is_first k (drop i ps) ≡ true → booked (position k t d) ps ≡ replaced i (position k ((position_of k ps).transferred + t) ((position_of k ps).detailed + d)) ps
  pub opened : (t d : ℕ) → is_first k (drop i ps) ≡ false → booked (position k t d) ps ≡ inserted i (position k t d) ps

-- ---- from one position to the next

pub before_none : (k : Key) (ps : List Position) → Sorted Before ps → KeysBefore k ps 0
before_none k ps s = record { within = omega arith; sorted = s; left = λ t d. put_start (booked (position k t d)) ps; found = refl; opens = refl }

module _ {k : Key} {ps : List Position} {i : ℕ} (g : KeysBefore k ps i) where
  pub place_end : length ps ≤ i → PlaceOf k ps i
  unfolding is_first booked position_of is_open any
  place_end h =
      let e : drop i ps ≡ [] = drop_of_length-le ps h in record {
        within = g.within;
        found = g.found;
        opens = g.opens ∙ rw e;
        missing = λ m. g.found ∙ rw e;
        raised = λ t d m. never (rw e at m);
        opened = λ t d m. put_end (g.left t d) h refl;
      }

  module _ (h : i < length ps) where
    p : Position
    p = get_or ps i (position k 0 0)

    rest : List Position
    rest = drop (suc i) ps

    split : drop i ps ≡ p ∷ rest
    unfolding p rest
    split = drop-cons ps i (position k 0 0) h

    tail : Sorted Before (p ∷ rest) → Sorted Before rest
    tail (next a s) = s

    pub before_more : key_before (get_or ps i (position k 0 0)).key k ≡ true → KeysBefore k ps (i + 1)
    unfolding p rest
    before_more b =
        let before = test_before p.key k b in
        let other : same_key p.key k ≡ false = before_other before in
        let first : key_before k p.key ≡ false = before_first before in
        let f : drop (i + 1) ps ≡ rest = rw add-one in record {
          within = omega arith;
          sorted = rw f (tail (rw split at g.sorted));
          left = λ t d. put_on (g.left t d) (position k 0 0) h (booked_behind (position k t d) p rest other first);
          found = g.found ∙ rw (split, found_other (position k 0 0) p rest other, f);
          opens = g.opens ∙ rw (split, open_other (position k 0 0) p rest other, f);
        }

    pub place_here : key_before (get_or ps i (position k 0 0)).key k ≡ false → PlaceOf k ps i
    unfolding p rest is_first
    place_here b =
        let ahead : same_key p.key k ≡ false → key_before k p.key ≡ true = λ m. gives_way p.key k b m in
        let behind : same_key p.key k ≡ false → Sorted Before (p ∷ rest) → is_open k (p ∷ rest) ≡ false = λ m s. not_open (position k 0 0) (first_before (position k 0 0) (ahead m) s) in record {
          within = g.within;
          found = g.found;
          opens = g.opens ∙ rw split (go (same_key p.key k) refl behind);
          missing = λ m. g.found ∙ rw split (not_found (position k 0 0) (first_before (position k 0 0) (ahead (rw split at m)) (rw split at g.sorted)));
          raised = λ t d m.
              let a : same_key p.key k ≡ true = rw split at m in
              let f : position_of k ps ≡ p = g.found ∙ rw (split, found_same (position k t d) p rest a) in
              put_over (g.left t d) (position k 0 0) h (booked_same (position k t d) p rest a ∙ rw (f, same_keys p.key k a));
          opened = λ t d m.
              let a : same_key p.key k ≡ false = rw split at m in
              put_before (g.left t d) (position k 0 0) h (booked_ahead (position k t d) p rest a (ahead a));
        }
      where
        go : (t : Bool) → same_key p.key k ≡ t → (same_key p.key k ≡ false → Sorted Before (p ∷ rest) → is_open k (p ∷ rest) ≡ false) → is_open k (p ∷ rest) ≡ t
        go true e f = open_same (position k 0 0) p rest e
        go false e f = f e (rw split at g.sorted)
