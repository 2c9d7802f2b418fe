-- Positions in their order: what `booked` and `kept` leave is in order again, and within the limits if the totals are.
use Rattle.std.specs.Prelude.{◌≡◌, refl, Bool, true, false, ◌&&◌, not, cond, List, [], ◌∷◌, ℕ, suc, ◌+◌, ◌≤◌, leb, length}
use Rattle.std.proofs.Common.{sym, ap, arith, leb-true, leb-false, le-leb}
use Rattle.rules.specs.Text.{any}
use Rattle.rules.specs.Dates.{exists}
use Rattle.rules.specs.Engine.{Position, limit, earlier, alike, raised, position_of, is_open, booked, has_details, kept, is_bank, good_position, good_positions}
use Rattle.rules.specs.Written.{corrected, corrected_count}
use Rattle.laws.specs.Tests.{and_left, and_right, cond_right, never, cond_left, cond_both, any_neither}
use Rattle.laws.specs.All.{All, All.none, All.more}
use Rattle.laws.specs.Order.{Ordering, Sorted, Sorted.empty, Sorted.next, all_before}
use Rattle.rule_laws.specs.Keys as K
use Rattle.rule_laws.specs.Keys.{before_trans, test_before, before_test, behind_other, KeyPlace, KeyPlace.same, KeyPlace.ahead, KeyPlace.behind, place}

-- ---- "by BIC in byte order and then date"

-- positions by their keys
abbrev pub Before : Position → Position → Type 0
Before p q = K.Before p.key q.key

pub position_order : Ordering earlier Before
position_order = record { says = λ p q. test_before p.key q.key; tests = before_test; chains = before_trans }

-- ---- booking

module _ (q p : Position) (ps : List Position) where
  pub booked_same : alike p q ≡ true → booked q (p ∷ ps) ≡ raised p q ∷ ps
  unfolding booked
  booked_same h = rw h

  pub booked_ahead : alike p q ≡ false → earlier q p ≡ true → booked q (p ∷ ps) ≡ q ∷ p ∷ ps
  unfolding booked
  booked_ahead h k = rw (h, k)

  pub booked_behind : alike p q ≡ false → earlier q p ≡ false → booked q (p ∷ ps) ≡ p ∷ booked q ps
  unfolding booked
  booked_behind h k = rw (h, k)

  pub open_same : alike p q ≡ true → is_open q.key (p ∷ ps) ≡ true
  unfolding is_open any
  open_same h = rw h

  pub open_other : alike p q ≡ false → is_open q.key (p ∷ ps) ≡ is_open q.key ps
  unfolding is_open any
  open_other h = rw h

  pub found_same : alike p q ≡ true → position_of q.key (p ∷ ps) ≡ p
  unfolding position_of
  found_same h = rw h

  pub found_other : alike p q ≡ false → position_of q.key (p ∷ ps) ≡ position_of q.key ps
  unfolding position_of
  found_other h = rw h

-- what holds of q and of each position, whatever its totals, holds of each position booked
all_booked : {P : Position → Type 0} (q : Position) (ps : List Position) → P q → ((p : Position) → P p → P (raised p q)) → All P ps → All P (booked q ps)
unfolding booked
all_booked q [] h f none = more h none
all_booked {P} q (p ∷ ps) h f (more k s) = go (place q.key p.key) (all_booked q ps h f s)
  where
    go : KeyPlace q.key p.key → All P (booked q ps) → All P (booked q (p ∷ ps))
    go (same a c) i = rw (booked_same q p ps c) (more (f p k) s)
    go (ahead a b c) i = rw (booked_ahead q p ps b c) (more h (more k s))
    go (behind a b c) i = rw (booked_behind q p ps b c) (more k i)

all_map : {P Q : Position → Type 0} {ps : List Position} → ((p : Position) → P p → Q p) → All P ps → All Q ps
all_map f none = none
all_map f (more {x = p} k s) = more (f p k) (all_map f s)

pub booked_sorted : (q : Position) {ps : List Position} → Sorted Before ps → Sorted Before (booked q ps)
unfolding booked
booked_sorted q empty = next none empty
booked_sorted q (next {x = p} {xs = ps} a s) = go (place q.key p.key) (booked_sorted q s)
  where
    go : KeyPlace q.key p.key → Sorted Before (booked q ps) → Sorted Before (booked q (p ∷ ps))
    go (same b c) i = rw (booked_same q p ps c) (next a s)
    go (ahead h b c) i = rw (booked_ahead q p ps b c) (next (more {x = p} h (all_before position_order {x = q} {y = p} h a)) (next a s))
    go (behind h b c) i = rw (booked_behind q p ps b c) (next (all_booked q ps h (λ r k. k) a) i)

-- a position behind which all others stand is none of them
pub not_open : (q : Position) {ps : List Position} → All (Before q) ps → is_open q.key ps ≡ false
unfolding is_open any
not_open q none = refl
not_open q (more k s) = any_neither _ _ (behind_other k) (not_open q s)

pub not_found : (q : Position) {ps : List Position} → All (Before q) ps → position_of q.key ps ≡ record { key = q.key; transferred = 0; detailed = 0 }
unfolding position_of
not_found q none = refl
not_found q (more k s) = rw (behind_other k) (not_found q s)

-- before the first one is before all
pub first_before : (q : Position) {p : Position} {ps : List Position} → earlier q p ≡ true → Sorted Before (p ∷ ps) → All (Before q) (p ∷ ps)
first_before q {p} h (next a s) = let b : Before q p = test_before q.key p.key h in more {x = p} b (all_before position_order {x = q} {y = p} b a)

-- a position more where it was missing
pub booked_length : (q : Position) {ps : List Position} → Sorted Before ps → length (booked q ps) ≡ cond (is_open q.key ps) (length ps) (suc (length ps))
unfolding booked is_open any
booked_length q empty = refl
booked_length q (next {x = p} {xs = ps} a s) = go (place q.key p.key) (is_open q.key ps) refl (booked_length q s)
  where
    go : KeyPlace q.key p.key → (t : Bool) → is_open q.key ps ≡ t → length (booked q ps) ≡ cond t (length ps) (suc (length ps))
        → length (booked q (p ∷ ps)) ≡ cond (is_open q.key (p ∷ ps)) (suc (length ps)) (suc (suc (length ps)))
    go (same b c) t o i = rw (booked_same q p ps c, open_same q p ps c)
    go (ahead h b c) t o i = rw (booked_ahead q p ps b c, not_open q (more {x = p} h (all_before position_order {x = q} {y = p} h a)))
    go (behind h b c) true o i = rw (booked_behind q p ps b c, open_other q p ps b, o) (ap suc i)
    go (behind h b c) false o i = rw (booked_behind q p ps b c, open_other q p ps b, o) (ap suc i)

-- 14 lets a position open only where there is room
pub booked_few : (q : Position) {ps : List Position} → Sorted Before ps → length ps ≤ 32 → (leb 32 (length ps) && not (is_open q.key ps)) ≡ false → length (booked q ps) ≤ 32
booked_few q {ps} s h k = rw (booked_length q s) (go (is_open q.key ps) (leb 32 (length ps)) refl k)
  where
    go : (t u : Bool) → leb 32 (length ps) ≡ u → (u && not t) ≡ false → cond t (length ps) (suc (length ps)) ≤ 32
    go true u e f = h
    go false true e f = never (sym f)
    go false false e f = leb-false 32 (length ps) e

-- ---- within the limits

pub record Good (day : ℕ) (p : Position) : Type 0 where
  pub bank : is_bank p.key.bank ≡ true
  pub date : exists p.key.date ≡ true
  pub past : p.key.date ≤ day
  pub transferred : p.transferred ≤ limit
  pub detailed : p.detailed ≤ limit

pub good : (day : ℕ) (p : Position) → good_position day p ≡ true → Good day p
unfolding good_position
good day p h = record {
  bank = search (and_left, and_right);
  date = search (and_left, and_right);
  past = leb-true _ _ (search (and_left, and_right));
  transferred = leb-true _ _ (search (and_left, and_right));
  detailed = leb-true _ _ (search (and_left, and_right));
}

pub good_test : {day : ℕ} {p : Position} → Good day p → good_position day p ≡ true
unfolding good_position
good_test g = rw (g.bank, g.date, le-leb _ _ g.past, le-leb _ _ g.transferred, le-leb _ _ g.detailed)

pub all_good : (day : ℕ) (ps : List Position) → good_positions day ps ≡ true → All (Good day) ps
unfolding good_positions
all_good day [] h = none
all_good day (p ∷ ps) h = more (good day p (cond_left (good_position day p) (good_positions day ps) h)) (all_good day ps (cond_right (good_position day p) (good_positions day ps) h))

pub good_all : {day : ℕ} {ps : List Position} → All (Good day) ps → good_positions day ps ≡ true
unfolding good_positions
good_all none = refl
good_all (more g s) = cond_both _ _ (good_test g) (good_all s)

-- 15 lets both totals pass
pub record UnderLimit (q : Position) (ps : List Position) : Type 0 where
  pub transferred : (position_of q.key ps).transferred + q.transferred ≤ limit
  pub detailed : (position_of q.key ps).detailed + q.detailed ≤ limit

module _ {day : ℕ} (q : Position) (b : is_bank q.key.bank ≡ true) (d : exists q.key.date ≡ true) (l : q.key.date ≤ day) where
  own : {ps : List Position} → UnderLimit q ps → Good day q
  own t = record { bank = b; date = d; past = l; transferred = omega (arith, t.transferred); detailed = omega (arith, t.detailed) }

  pub booked_good : {ps : List Position} → UnderLimit q ps → All (Good day) ps → All (Good day) (booked q ps)
  unfolding booked
  booked_good t none = more (own t) none
  booked_good t (more {x = p} {xs = ps} g s) = go (place q.key p.key) (λ u. booked_good u s)
    where
      go : KeyPlace q.key p.key → (UnderLimit q ps → All (Good day) (booked q ps)) → All (Good day) (booked q (p ∷ ps))
      go (same f c) i =
          let z : position_of q.key (p ∷ ps) ≡ p = found_same q p ps c in
          rw (booked_same q p ps c) (more record { bank = g.bank; date = g.date; past = g.past; transferred = rw z at t.transferred; detailed = rw z at t.detailed } s)
      go (ahead h e f) i = rw (booked_ahead q p ps e f) (more (own t) (more g s))
      go (behind h e f) i =
          let z : position_of q.key (p ∷ ps) ≡ position_of q.key ps = found_other q p ps e in
          rw (booked_behind q p ps e f) (more g (i record { transferred = rw z at t.transferred; detailed = rw z at t.detailed }))

-- ---- "A position without details stays"

all_kept : {P : Position → Type 0} {ps : List Position} → All P ps → All P (kept ps)
unfolding kept
all_kept none = none
all_kept {P} (more {x = p} {xs = ps} k s) = go (has_details p) (all_kept s)
  where
    go : (t : Bool) → All P (kept ps) → All P (cond t (kept ps) (p ∷ kept ps))
    go true i = i
    go false i = more k i

pub kept_sorted : {ps : List Position} → Sorted Before ps → Sorted Before (kept ps)
unfolding kept
kept_sorted empty = empty
kept_sorted (next {x = p} {xs = ps} a s) = go (has_details p) (kept_sorted s)
  where
    go : (t : Bool) → Sorted Before (kept ps) → Sorted Before (cond t (kept ps) (p ∷ kept ps))
    go true i = i
    go false i = next (all_kept a) i

-- to a later day
pub kept_good : {day later : ℕ} {ps : List Position} → day ≤ later → All (Good day) ps → All (Good later) (kept ps)
kept_good h s = all_kept (all_map (λ p g. record { bank = g.bank; date = g.date; past = omega (arith, g.past); transferred = g.transferred; detailed = g.detailed }) s)

pub kept_length : (ps : List Position) → length (kept ps) ≤ length ps
unfolding kept
kept_length [] = omega arith
kept_length (p ∷ ps) = go (has_details p) (kept_length ps)
  where
    go : (t : Bool) → length (kept ps) ≤ length ps → length (cond t (kept ps) (p ∷ kept ps)) ≤ suc (length ps)
    go true i = omega arith
    go false i = omega arith

-- a turn writes at most one message for each position
pub corrected_length : (ps : List Position) → corrected_count ps ≤ length ps
unfolding corrected_count
corrected_length [] = omega arith
corrected_length (p ∷ ps) = go (corrected p) (corrected_length ps)
  where
    go : (t : Bool) → corrected_count ps ≤ length ps → cond t (suc (corrected_count ps)) (corrected_count ps) ≤ suc (length ps)
    go true i = omega arith
    go false i = omega arith
