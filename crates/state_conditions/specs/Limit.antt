-- 15, "a total over its limit", of what was booked of a message; and of an MT101 by the sum that is kept while its details are read.
use Rattle.std.specs.Prelude.{◌≡◌, refl, Bool, true, false, ◌||◌, not, cond, List, ℕ, ◌+◌, ◌≤◌, leb, Option}
use Rattle.std.specs.Prelude as R
use Rattle.std.proofs.Common.{sym, ap, ◌∙◌, add-zero, arith, le-leb}
use Rattle.std.proofs.Math.Option.{some}
use Rattle.rules.specs.Messages.{Order, mt101, details, details_of, transferred_by, detailed_by, sum_of_amounts}
use Rattle.rules.specs.Engine.{Key, Position, Engine, limit, same_key, position_of, within}
use Rattle.rules.specs.Calls.{key_of, position_after, over_limit}
use Rattle.rules.specs.Area.{decode}
use Rattle.laws.specs.Parts.{from}
use Rattle.laws.specs.All.{All, All.none, All.more}
use Rattle.rule_laws.specs.Options.{some_is}
use Rattle.engine_laws.specs.Limits.{limits}
use Rattle.engine_laws.specs.Positions.{Good, all_good}
use Rattle.position.specs.declared.Position as P
use Rattle.engine.specs.Totals.{TotalsOf, begun}
use Rattle.details.specs.Message.{message_in}
use Rattle.conditions.specs.Books.{Books, is_transfer, amount_if}
use Rattle.conditions.specs.Tally.{TallyAt, DetailsTallied}
use Rattle.conditions.specs.declared.booking.Booking.{Booking}
use Rattle.conditions.specs.declared.tally.Tally.{Tally}

-- of both totals, as the code tests it
unfoldable pub over_by : P.Position → Booking → Bool
over_by t b = not (leb (t.transferred + amount_if (is_transfer b.kind) b.amount) limit) || not (leb (t.detailed + amount_if (not (is_transfer b.kind)) b.amount) limit)

-- it is the message's 15
pub over_is : (s area : List ℕ) (b : Booking) → Books s (message_in s) b → (o : Option P.Position) → TotalsOf (decode area).positions b.key o → over_by (begun b.key o) b ≡ over_limit (decode area) (message_in s)
unfolding over_by over_limit position_after
over_is s area b k o g = rw (← k.key, ← g.transferred, ← g.detailed, k.transferred, k.detailed) refl

-- ---- of an MT101

-- a position of an engine is within the limit
under : {day : ℕ} (k : Key) {ps : List Position} → All (Good day) ps → (position_of k ps).transferred ≤ limit
unfolding position_of
under k none = omega arith
under {day} k (more {x = p} {xs = ps} g s) = go (same_key p.key k) (under k s)
  where
    go : (t : Bool) → (position_of k ps).transferred ≤ limit → (cond t p (position_of k ps)).transferred ≤ limit
    go true h = g.transferred
    go false h = h

-- it adds nothing to transferred, so that 15 asks for detailed and the sum of its amounts
over_sum : (e : Engine) → within e ≡ true → (o : Order) → over_limit e (mt101 o) ≡ not (leb ((position_of (key_of (mt101 o)) e.positions).detailed + sum_of_amounts o.details) limit)
unfolding over_limit position_after transferred_by detailed_by details_of
over_sum e w o = rw (add-zero (position_of (key_of (mt101 o)) e.positions).transferred, le-leb _ _ (under (key_of (mt101 o)) (all_good e.day e.positions (limits e w).good))) refl

-- "15 is tested with the last": the sum that the walk over the details answers decides it
pub running_sum_decides : (s text : List ℕ) (at : ℕ) {q : R.Option Tally} {kept : _} → TallyAt s text at q kept → (t : Tally) → q ≡ R.Some t
    → (e : Engine) → within e ≡ true → (o : Order) → details 4096 (from s at) ≡ some o.details
    → over_limit e (mt101 o) ≡ not (leb ((position_of (key_of (mt101 o)) e.positions).detailed + t.sum) limit)
running_sum_decides s text at w t h e g o r =
    let d : DetailsTallied s text at t _ = w.all_there t h in
    let same : sum_of_amounts o.details ≡ t.sum = ap sum_of_amounts (some_is (sym r ∙ d.read)) ∙ sym d.told.sum in
    over_sum e g o ∙ ap (λ (v : ℕ). not (leb ((position_of (key_of (mt101 o)) e.positions).detailed + v) limit)) same
