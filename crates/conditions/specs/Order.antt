-- The conditions 4 to 8 of an MT101.
use Rattle.std.specs.Prelude.{◌≡◌, refl, Bool, true, false, ◌||◌, not, cond, List, ℕ, ◌≤◌, ◌<◌, leb, eqb, length}
use Rattle.std.proofs.Common.{ap, arith, leb-true, le-leb}
use Rattle.std.proofs.Math.Option.{some}
use Rattle.std.proofs.lemmas.Bool.{lt-leb}
use Rattle.rules.specs.Text.{equal, any, twice}
use Rattle.rules.specs.Engine.{slashed}
use Rattle.rules.specs.Messages as M
use Rattle.rules.specs.Messages.{mt101, field20, field21, currency32b, first_date, reference_of, details_of, date_of}
use Rattle.rules.specs.Calls.{form_stops, first_of, holds_of, bad_reference, bad_sum, bad_amount, foreign_payer, bad_account, many_dates}
use Rattle.field_conditions.specs.Stops.{no_stop}
use Rattle.conditions.specs.Walk.{alike}
use Rattle.conditions.specs.Lowest.{pick, lowest_any}

-- ---- 4 to 8

-- of a number of details, whether field 20 has slashes, the lowest condition that a detail breaks, and whether one field 21 appears twice
abbrev pub order_stop : ℕ → Bool → ℕ → Bool → ℕ
order_stop n b low t = cond (not (leb n 16)) 4 (cond b 5 (cond (eqb low 5) 5 (cond t 5 (cond (eqb low no_stop) 0 low))))

joined : (b t p q r z : Bool) → cond b 5 (cond (eqb (pick p q r z) 5) 5 (cond t 5 (cond (eqb (pick p q r z) no_stop) 0 (pick p q r z)))) ≡ cond (b || p || t) 5 (cond q 6 (cond r 7 (cond z 8 0)))
joined true t p q r z = refl
joined false t true q r z = refl
joined false true false true r z = refl
joined false true false false true z = refl
joined false true false false false true = refl
joined false true false false false false = refl
joined false false false true r z = refl
joined false false false false true z = refl
joined false false false false false true = refl
joined false false false false false false = refl

-- they are the message's
pub order_stops : (temporary bank : List ℕ) (rows : List (List ℕ)) (ds : List M.Detail)
    → order_stop (length ds) (slashed (field20 rows)) (lowest_any bank (first_date ds) ds) (twice alike ds) ≡ first_of (form_stops temporary (some (mt101 record { sender = bank; rows = rows; details = ds })))
unfolding form_stops first_of holds_of bad_reference bad_amount bad_account many_dates reference_of details_of date_of lowest_any alike
order_stops temporary bank rows ds =
    ap (λ (x : ℕ). cond (not (leb (length ds) 16)) 4 x)
    (joined (slashed (field20 rows)) (twice (λ (d e : M.Detail). equal (field21 d) (field21 e)) ds)
    (any (λ (d : M.Detail). slashed (field21 d)) ds) (any (λ (d : M.Detail). bad_sum (currency32b d) d.amount) ds) (any (foreign_payer bank) ds)
    (any (λ (d : M.Detail). not (eqb d.date (first_date ds))) ds))

-- ---- picked by comparisons, as the code goes

module _ (a b x y r : ℕ) where
  pub pick_over : b < a → r ≡ x → r ≡ cond (not (leb a b)) x y
  pick_over h e = rw (lt-leb a b h) e

  pub pick_within : a ≤ b → r ≡ y → r ≡ cond (not (leb a b)) x y
  pick_within h e = rw (le-leb a b h) e

-- one field 21 twice is asked only of 16 details at most
pub order_many : (n : ℕ) (b : Bool) (low : ℕ) (t t' : Bool) → (n ≤ 16 → t ≡ t') → order_stop n b low t ≡ order_stop n b low t'
order_many n b low t t' f = go (leb n 16) refl
  where
    go : (q : Bool) → leb n 16 ≡ q → cond (not q) 4 (cond b 5 (cond (eqb low 5) 5 (cond t 5 (cond (eqb low no_stop) 0 low)))) ≡ cond (not q) 4 (cond b 5 (cond (eqb low 5) 5 (cond t' 5 (cond (eqb low no_stop) 0 low))))
    go true e = rw (f (leb-true n 16 e))
    go false e = refl

-- no more than 16 where no condition holds
pub order_few : (n : ℕ) (b : Bool) (low : ℕ) (t : Bool) → order_stop n b low t ≡ 0 → n ≤ 16
order_few n b low t h = go (leb n 16) refl h
  where
    go : (q : Bool) → leb n 16 ≡ q → cond (not q) 4 (cond b 5 (cond (eqb low 5) 5 (cond t 5 (cond (eqb low no_stop) 0 low)))) ≡ 0 → n ≤ 16
    go true e g = leb-true n 16 e
    go false e g = absurd (omega arith)
