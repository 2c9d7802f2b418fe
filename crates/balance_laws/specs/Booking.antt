-- A message booked: `entered` in the ledger and `booked` among the engine's positions change every sum alike, so that both keep the same entries.
use Rattle.std.specs.Prelude.{◌≡◌, refl, Bool, true, false, cond, List, [], ◌∷◌, ℕ, ◌+◌, ◌≤◌}
use Rattle.std.proofs.Common.{sym, ◌∙◌, zero-add, add-zero}
use Rattle.std.proofs.Math.Path.{ap}
use native.Mathlib.Omega.{arith}
use Rattle.rules.specs.Text.{ordered}
use Rattle.rules.specs.Engine.{Position, earlier, alike, raised, booked}
use Rattle.rules.specs.Ledger.{entered}
use Rattle.laws.specs.Tests.{never}
use Rattle.laws.specs.All.{All, All.none, All.more}
use Rattle.laws.specs.Order.{Sorted, Sorted.empty, Sorted.next, ordered_sorted}
use Rattle.rule_laws.specs.Keys.{before_trans, same_keys, behind_other, KeyPlace, KeyPlace.same, KeyPlace.ahead, KeyPlace.behind, place}
use Rattle.engine_laws.specs.Positions.{Before, position_order, booked_same, booked_ahead, booked_behind}
use Rattle.balance_laws.specs.Tally.{Measure, Test, tally, SameEntries, one, transfers, details, only, like}

-- how many entries are of q's bank and date
unfoldable pub many : Position → List Position → ℕ
many q ps = tally (only (like q) one) ps

-- the entry of q's bank and date with q's totals added
unfoldable pub total : Position → List Position → Position
total q ps = record {
  key = q.key;
  transferred = tally (only (like q) transfers) ps + q.transferred;
  detailed = tally (only (like q) details) ps + q.detailed;
}

-- a bank and date without totals
unfoldable pub keyed : ℕ → ℕ → Position
keyed b d = record { key = record { bank = b; date = d }; transferred = 0; detailed = 0 }

-- what booking q does to every sum
pub record BookedSums (q : Position) (ps ps' : List Position) : Type 0 where
  pub sums : (g : Measure) → tally g ps' + tally (only (like q) g) ps ≡ tally g ps + g (total q ps)

-- it does the same to lists with the same entries
pub booked_alike : (q : Position) (ps qs ps' qs' : List Position) → SameEntries ps qs → BookedSums q ps ps' → BookedSums q qs qs' → SameEntries ps' qs'
unfolding total
booked_alike q ps qs ps' qs' s b c = record { sums = λ g. let e : g (total q ps) ≡ g (total q qs) = rw (s.sums (only (like q) transfers), s.sums (only (like q) details)) in omega (arith, b.sums g, c.sums g, s.sums g, s.sums (only (like q) g)) }

-- no entry of q's bank and date: nothing is taken out
pub many_none : (q : Position) (g : Measure) (ps : List Position) → many q ps ≡ 0 → tally (only (like q) g) ps ≡ 0
unfolding many tally only
many_none q g [] h = refl
many_none q g (p ∷ ps) h = go (like q p) (many_none q g ps) h
  where
    go : (t : Bool) → (many q ps ≡ 0 → tally (only (like q) g) ps ≡ 0) → cond t 1 0 + many q ps ≡ 0 → cond t (g p) 0 + tally (only (like q) g) ps ≡ 0
    go true f e = absurd (omega arith)
    go false f e = let z : tally (only (like q) g) ps ≡ 0 = f (omega arith) in omega arith

pub many_here : (q p : Position) (ps : List Position) → alike p q ≡ true → many q (p ∷ ps) ≡ 1 + many q ps
unfolding many tally only like
many_here q p ps h = rw h

pub many_past : (q p : Position) (ps : List Position) → alike p q ≡ false → many q (p ∷ ps) ≡ many q ps
unfolding many tally only like
many_past q p ps h = rw (h, zero-add)

-- where there is none, the total is q itself
total_none : (q : Position) (ps : List Position) → many q ps ≡ 0 → total q ps ≡ q
unfolding total
total_none q ps h = rw (many_none q transfers ps h, many_none q details ps h) (simp zero-add)

-- one entry more, of another bank or date
total_past : (q p : Position) (ps : List Position) → alike p q ≡ false → total q (p ∷ ps) ≡ total q ps
unfolding total tally only like
total_past q p ps h = rw h (simp zero-add)

-- one entry more, which is q's, and no other
total_here : (q p : Position) (ps : List Position) → alike p q ≡ true → many q ps ≡ 0
    → total q (p ∷ ps) ≡ raised p q
unfolding total tally only like
total_here q p ps h n =
    rw (h, many_none q transfers ps n, many_none q details ps n, same_keys p.key q.key h) (simp add-zero)

-- ---- the ways that both go

-- at the end, or before all others: q is new
module _ (q : Position) (ps : List Position) (n : many q ps ≡ 0) where
  pub booked_new : BookedSums q ps (q ∷ ps)
  unfolding tally
  booked_new = record { sums = λ g. let e : g (total q ps) ≡ g q = ap g (total_none q ps n) in let z : tally (only (like q) g) ps ≡ 0 = many_none q g ps n in omega arith }

-- p is q's entry
pub booked_here : (q p : Position) (ps : List Position) → alike p q ≡ true → many q ps ≡ 0
    → BookedSums q (p ∷ ps) (raised p q ∷ ps)
unfolding tally only like
booked_here q p ps h n = record { sums = λ g. let e = ap g (total_here q p ps h n) in let z : tally (only (like q) g) ps ≡ 0 = many_none q g ps n in rw (h) (omega arith) }

-- p is another entry
pub booked_past : (q p : Position) (ps ps' : List Position) → alike p q ≡ false → BookedSums q ps ps' → BookedSums q (p ∷ ps) (p ∷ ps')
unfolding tally only like
booked_past q p ps ps' h b = record { sums = λ g. let e = ap g (total_past q p ps h) in rw h (omega (arith, b.sums g)) }

-- ---- the ledger

pub entered_booked : (q : Position) (ps : List Position) → many q ps ≤ 1 → BookedSums q ps (entered q ps)
unfolding entered many tally
entered_booked q [] h = booked_new q [] refl
entered_booked q (p ∷ ps) h = go (alike p q) refl (entered_booked q ps) h
  where
    go : (t : Bool) → alike p q ≡ t → (many q ps ≤ 1 → BookedSums q ps (entered q ps)) → many q (p ∷ ps) ≤ 1 → BookedSums q (p ∷ ps) (entered q (p ∷ ps))
    go true e f l = rw (e, entered) (booked_here q p ps e (omega (arith, many_here q p ps e)))
    go false e f l = rw (e, entered) (booked_past q p ps (entered q ps) e (f (omega (arith, many_past q p ps e))))

-- a measure that a booking adds to, whatever the entry had
pub tally_entered : (g : Measure) (q : Position) → ((p : Position) → alike p q ≡ true → g (raised p q) ≡ g p + g q) → (ps : List Position) → tally g (entered q ps) ≡ tally g ps + g q
unfolding entered tally
tally_entered g q adds [] = omega arith
tally_entered g q adds (p ∷ ps) = go (alike p q) refl (tally_entered g q adds ps)
  where
    go : (t : Bool) → alike p q ≡ t → tally g (entered q ps) ≡ tally g ps + g q → tally g (cond t (raised p q ∷ ps) (p ∷ entered q ps)) ≡ g p + tally g ps + g q
    go true e i = omega (arith, adds p e)
    go false e i = omega arith

-- a total of the entries that pass a test of bank and date
pub total_entered : (t : Test) (v : Measure) (q : Position) → ((p : Position) → alike p q ≡ true → t p ≡ t q) → ((p : Position) → t (raised p q) ≡ t p)
    → ((p : Position) → v (raised p q) ≡ v p + v q) → (ps : List Position) → tally (only t v) (entered q ps) ≡ tally (only t v) ps + only t v q
unfolding only
total_entered t v q agrees stays adds ps =
    tally_entered (only t v) q (λ p h. rw (stays p) (go p (t p) (t q) (agrees p h))) ps
  where
    go : (p : Position) (x y : Bool) → x ≡ y → cond x (v (raised p q)) 0 ≡ cond x (v p) 0 + cond y (v q) 0
    go p true true e = adds p
    go p false false e = refl
    go p true false e = never (sym e)
    go p false true e = never e

pub like_agrees : (k p q : Position) → alike p q ≡ true → like k p ≡ like k q
unfolding like
like_agrees k p q h = rw (same_keys p.key q.key h)

raised_none : (p : Position) (b d : ℕ) → raised p (keyed b d) ≡ p
unfolding keyed
raised_none p b d = simp add-zero

-- an entry that is there once, or not at all
pub single : (g : Measure) (b d : ℕ) (ps : List Position) → g (keyed b d) ≡ 0 → many (keyed b d) ps ≤ 1 → tally (only (like (keyed b d)) g) ps ≡ g (total (keyed b d) ps)
unfolding tally many only like
single g b d [] z l = sym (ap g (total_none (keyed b d) [] refl) ∙ z)
single g b d (p ∷ ps) z l = go (alike p (keyed b d)) refl (single g b d ps z)
  where
    go : (t : Bool) → alike p (keyed b d) ≡ t → (many (keyed b d) ps ≤ 1 → tally (only (like (keyed b d)) g) ps ≡ g (total (keyed b d) ps))
        → cond t (g p) 0 + tally (only (like (keyed b d)) g) ps ≡ g (total (keyed b d) (p ∷ ps))
    go true e f =
        let n : many (keyed b d) ps ≡ 0 = omega (arith, many_here (keyed b d) p ps e) in
        rw (many_none (keyed b d) g ps n, total_here (keyed b d) p ps e n, raised_none p b d) (omega arith)
    go false e f = rw (total_past (keyed b d) p ps e) (omega (arith, f (omega (arith, many_past (keyed b d) p ps e))))

-- ---- the engine's positions, which stand in order

none_behind : (q p : Position) {ps : List Position} → ((r : Position) → Before p r → Before q r) → All (Before p) ps → many q ps ≡ 0
unfolding many tally
none_behind q p f none = refl
none_behind q p f (more {x = r} {xs = ps} k s) = many_past q r ps (behind_other (f r k)) ∙ none_behind q p f s

-- positions in order are distinct
pub sorted_many : (q : Position) {ps : List Position} → Sorted Before ps → many q ps ≤ 1
unfolding many tally
sorted_many q empty = omega arith
sorted_many q (next {x = p} {xs = ps} a s) = go (place q.key p.key) (sorted_many q s)
  where
    go : KeyPlace q.key p.key → many q ps ≤ 1 → many q (p ∷ ps) ≤ 1
    go (same e h) l = omega (arith, many_here q p ps h, none_behind q p (λ r k. rw e at k) a)
    go (ahead k h e) l = omega (arith, many_past q p ps h)
    go (behind k h e) l = omega (arith, many_past q p ps h)

pub booked_booked : (q : Position) {ps : List Position} → Sorted Before ps → BookedSums q ps (booked q ps)
unfolding booked many tally
booked_booked q empty = booked_new q [] refl
booked_booked q (next {x = p} {xs = ps} a s) = go (place q.key p.key) (booked_booked q s)
  where
    go : KeyPlace q.key p.key → BookedSums q ps (booked q ps) → BookedSums q (p ∷ ps) (booked q (p ∷ ps))
    go (same e h) b = rw (booked_same q p ps h) (booked_here q p ps h (none_behind q p (λ r k. rw e at k) a))
    go (ahead k h e) b = rw (booked_ahead q p ps h e) (booked_new q (p ∷ ps) (many_past q p ps h ∙ none_behind q p (λ r. before_trans k) a))
    go (behind k h e) b = rw (booked_behind q p ps h e) (booked_past q p ps (booked q ps) h b)

-- an accepted message: ledger and engine keep the same entries
pub entered_same : (q : Position) (ps ledger : List Position) → ordered earlier ps ≡ true → SameEntries ps ledger → SameEntries (booked q ps) (entered q ledger)
unfolding many
entered_same q ps ledger h s =
    let o : Sorted Before ps = ordered_sorted position_order ps h in
    booked_alike q ps ledger _ _ s (booked_booked q o) (entered_booked q ledger (rw (← s.sums (only (like q) one)) (sorted_many q o)))
