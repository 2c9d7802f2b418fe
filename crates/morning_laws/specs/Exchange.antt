-- Booking commutes: two messages booked in either order leave the same positions, which need not even stand in order.
use Rattle.std.specs.Prelude.{◌≡◌, refl, true, List, [], ◌∷◌, ℕ, ◌+◌}
use Rattle.std.proofs.Common.{sym, ap, subst, ◌∙◌, arith}
use Rattle.std.proofs.Math.Option.{Option, none, some}
use Rattle.rules.specs.Messages.{Message, read}
use Rattle.rules.specs.Engine.{Position, same_key, raised, booked}
use Rattle.rules.specs.Calls.{addition}
use Rattle.rule_laws.specs.Keys as K
use Rattle.rule_laws.specs.Keys.{before_trans, before_other, before_first, behind_other, before_test, KeyPlace, KeyPlace.same, KeyPlace.ahead, KeyPlace.behind, place}
use Rattle.engine_laws.specs.Positions.{Before, booked_same, booked_ahead, booked_behind}

-- ---- totals added in either order

raised_swap : (p q r : Position) → raised (raised p q) r ≡ raised (raised p r) q
raised_swap p q r =
    let t : p.transferred + q.transferred + r.transferred ≡ p.transferred + r.transferred + q.transferred = omega arith in
    let d : p.detailed + q.detailed + r.detailed ≡ p.detailed + r.detailed + q.detailed = omega arith in
    rw (t, d)

raised_either : (q r : Position) → r.key ≡ q.key → raised r q ≡ raised q r
raised_either q r e =
    let t : r.transferred + q.transferred ≡ q.transferred + r.transferred = omega arith in
    let d : r.detailed + q.detailed ≡ q.detailed + r.detailed = omega arith in
    rw (e, t, d)

-- ---- before a position, and behind one

module _ (q p : Position) (ps : List Position) where
  booked_front : Before q p → booked q (p ∷ ps) ≡ q ∷ p ∷ ps
  booked_front b = booked_ahead q p ps (behind_other b) (before_test b)

  booked_on : Before p q → booked q (p ∷ ps) ≡ p ∷ booked q ps
  booked_on b = booked_behind q p ps (before_other b) (before_first b)

-- ---- two bookings, by where they belong against the first position

-- both open in front of what is there
both_new : (q r : Position) (ps : List Position) → booked q ps ≡ q ∷ ps → booked r ps ≡ r ∷ ps → booked q (r ∷ ps) ≡ booked r (q ∷ ps)
both_new q r ps f g = go (place q.key r.key)
  where
    go : KeyPlace q.key r.key → booked q (r ∷ ps) ≡ booked r (q ∷ ps)
    go (same e h) = rw (booked_same q r ps h, booked_same r q ps (rw e (K.same_self q.key)), raised_either q r e)
    go (ahead b h k) = rw (booked_front q r ps b, booked_on r q ps b, g)
    go (behind b h k) = rw (booked_on q r ps b, booked_front r q ps b, f)

module _ (q r p : Position) (ps : List Position) where
  same_same : same_key p.key q.key ≡ true → same_key p.key r.key ≡ true → booked q (booked r (p ∷ ps)) ≡ booked r (booked q (p ∷ ps))
  same_same h k = rw (booked_same r p ps k, booked_same q p ps h, booked_same q (raised p r) ps h, booked_same r (raised p q) ps k, raised_swap p q r)

  same_ahead : p.key ≡ q.key → same_key p.key q.key ≡ true → Before r p → booked q (booked r (p ∷ ps)) ≡ booked r (booked q (p ∷ ps))
  same_ahead e h b =
      let c : Before r q = subst (K.Before r.key) e b in
      rw (booked_front r p ps b, booked_on q r (p ∷ ps) c, booked_same q p ps h, booked_front r (raised p q) ps b)

  same_behind : same_key p.key q.key ≡ true → Before p r → booked q (booked r (p ∷ ps)) ≡ booked r (booked q (p ∷ ps))
  same_behind h b = rw (booked_on r p ps b, booked_same q p ps h, booked_same q p (booked r ps) h, booked_on r (raised p q) ps b)

  ahead_ahead : Before q p → Before r p → booked q (booked r (p ∷ ps)) ≡ booked r (booked q (p ∷ ps))
  ahead_ahead b c =
      let f : booked q (p ∷ ps) ≡ q ∷ p ∷ ps = booked_front q p ps b in
      let g : booked r (p ∷ ps) ≡ r ∷ p ∷ ps = booked_front r p ps c in
      ap (booked q) g ∙ both_new q r (p ∷ ps) f g ∙ sym (ap (booked r) f)

  ahead_behind : Before q p → Before p r → booked q (booked r (p ∷ ps)) ≡ booked r (booked q (p ∷ ps))
  ahead_behind b c = rw (booked_on r p ps c, booked_front q p ps b, booked_front q p (booked r ps) b, booked_on r q (p ∷ ps) (before_trans b c), booked_on r p ps c)

-- booking commutes
pub booked_swap : (q r : Position) (ps : List Position) → booked q (booked r ps) ≡ booked r (booked q ps)
unfolding booked
booked_swap q r [] = both_new q r [] refl refl
booked_swap q r (p ∷ ps) = go (place q.key p.key) (place r.key p.key) (booked_swap q r ps)
  where
    go : KeyPlace q.key p.key → KeyPlace r.key p.key → booked q (booked r ps) ≡ booked r (booked q ps) → booked q (booked r (p ∷ ps)) ≡ booked r (booked q (p ∷ ps))
    go (same e h) (same f k) i = same_same q r p ps h k
    go (same e h) (ahead c k l) i = same_ahead q r p ps e h c
    go (same e h) (behind c k l) i = same_behind q r p ps h c
    go (ahead b h j) (same f k) i = sym (same_ahead r q p ps f k b)
    go (ahead b h j) (ahead c k l) i = ahead_ahead q r p ps b c
    go (ahead b h j) (behind c k l) i = ahead_behind q r p ps b c
    go (behind b h j) (same f k) i = sym (same_behind r q p ps k b)
    go (behind b h j) (ahead c k l) i = sym (ahead_behind r q p ps c b)
    go (behind b h j) (behind c k l) i = rw (booked_on q p ps b, booked_on r p ps c, booked_on q p (booked r ps) b, booked_on r p (booked q ps) c, i)

-- ---- the same of messages as they are sent

-- the positions with a message booked, if it is read as one
unfoldable pub booked_read : Option Message → List Position → List Position
booked_read none ps = ps
booked_read (some m) ps = booked (addition m) ps

unfoldable pub booked_text : List ℕ → List Position → List Position
booked_text s ps = booked_read (read s) ps

pub booked_read_lem : (s : List ℕ) (m : Message) (ps : List Position) → read s ≡ some m → booked_text s ps ≡ booked (addition m) ps
unfolding booked_text booked_read
booked_read_lem s m ps h = rw h

pub texts_swap : (s t : List ℕ) (ps : List Position) → booked_text s (booked_text t ps) ≡ booked_text t (booked_text s ps)
unfolding booked_text booked_read
texts_swap s t ps = go (read s) (read t)
  where
    go : (m n : Option Message) → booked_read m (booked_read n ps) ≡ booked_read n (booked_read m ps)
    go none n = refl
    go (some m) none = refl
    go (some m) (some n) = booked_swap (addition m) (addition n) ps
