-- The conditions 5 to 8 of details as one number: the lowest that one of them breaks.
use Rattle.std.specs.Prelude.{◌≡◌, refl, Bool, true, false, not, cond, List, [], ◌∷◌, ◌++◌, ℕ, ◌≤◌, min, eqb}
use Rattle.std.proofs.Common.{arith}
use Rattle.rules.specs.Text.{any}
use Rattle.rules.specs.Engine.{slashed}
use Rattle.rules.specs.Messages as M
use Rattle.rules.specs.Messages.{field21, currency32b}
use Rattle.rules.specs.Calls.{bad_sum, foreign_payer}
use Rattle.field_conditions.specs.Stops.{lowest, no_stop}

-- the lowest of 5 to 8 whose test holds, or `no_stop`
abbrev pub pick : Bool → Bool → Bool → Bool → ℕ
pick a b c d = cond a 5 (cond b 6 (cond c 7 (cond d 8 no_stop)))

-- the lowest that any of the details breaks
unfoldable pub lowest_any : List ℕ → ℕ → List M.Detail → ℕ
lowest_any bank day ds =
    pick (any (λ (d : M.Detail). slashed (field21 d)) ds) (any (λ (d : M.Detail). bad_sum (currency32b d) d.amount) ds) (any (foreign_payer bank) ds)
    (any (λ (d : M.Detail). not (eqb d.date day)) ds)

-- a test of two: the lower number
lower : (n : ℕ) (a b : Bool) (x y z : ℕ) → n ≤ x → n ≤ y → z ≡ min x y → cond (cond a true b) n z ≡ min (cond a n x) (cond b n y)
lower n true true x y z h k e = omega arith
lower n true false x y z h k e = omega arith
lower n false true x y z h k e = omega arith
lower n false false x y z h k e = e

tail : (n x : ℕ) (a : Bool) → n ≤ x → n ≤ cond a n x
tail n x true h = omega arith
tail n x false h = h

-- the tests of two, one by one
picks : (a b c d a' b' c' d' : Bool) → pick (cond a true a') (cond b true b') (cond c true c') (cond d true d') ≡ min (pick a b c d) (pick a' b' c' d')
picks a b c d a' b' c' d' =
    let p : 8 ≤ cond d 8 no_stop = tail 8 no_stop d (omega arith) in
    let p' : 8 ≤ cond d' 8 no_stop = tail 8 no_stop d' (omega arith) in
    let q : 7 ≤ cond c 7 (cond d 8 no_stop) = tail 7 (cond d 8 no_stop) c (omega arith) in
    let q' : 7 ≤ cond c' 7 (cond d' 8 no_stop) = tail 7 (cond d' 8 no_stop) c' (omega arith) in
    let r : 6 ≤ cond b 6 (cond c 7 (cond d 8 no_stop)) = tail 6 (cond c 7 (cond d 8 no_stop)) b (omega arith) in
    let r' : 6 ≤ cond b' 6 (cond c' 7 (cond d' 8 no_stop)) = tail 6 (cond c' 7 (cond d' 8 no_stop)) b' (omega arith) in
    lower 5 a a' (cond b 6 (cond c 7 (cond d 8 no_stop))) (cond b' 6 (cond c' 7 (cond d' 8 no_stop))) _ (omega arith) (omega arith)
    (lower 6 b b' (cond c 7 (cond d 8 no_stop)) (cond c' 7 (cond d' 8 no_stop)) _ (omega arith) (omega arith)
    (lower 7 c c' (cond d 8 no_stop) (cond d' 8 no_stop) _ (omega arith) (omega arith)
    (lower 8 d d' no_stop no_stop no_stop (omega arith) (omega arith) refl)))

any_more : (bank : List ℕ) (day : ℕ) (d : M.Detail) (ds : List M.Detail) → lowest_any bank day (d ∷ ds) ≡ min (lowest bank day d) (lowest_any bank day ds)
unfolding lowest_any lowest any
any_more bank day d ds =
    picks (slashed (field21 d)) (bad_sum (currency32b d) d.amount) (foreign_payer bank d) (not (eqb d.date day))
    (any (λ (d : M.Detail). slashed (field21 d)) ds) (any (λ (d : M.Detail). bad_sum (currency32b d) d.amount) ds) (any (foreign_payer bank) ds) (any (λ (d : M.Detail). not (eqb d.date day)) ds)

pub any_none : (bank : List ℕ) (day : ℕ) → lowest_any bank day [] ≡ no_stop
unfolding lowest_any any
any_none bank day = refl

-- with one more detail behind them
pub any_last : (bank : List ℕ) (day : ℕ) (ds : List M.Detail) (d : M.Detail) → lowest_any bank day (ds ++ (d ∷ [])) ≡ min (lowest_any bank day ds) (lowest bank day d)
any_last bank day [] d = rw (any_more bank day d [], any_none bank day) (omega arith)
any_last bank day (e ∷ ds) d = rw (any_more bank day e (ds ++ (d ∷ [])), any_last bank day ds d, any_more bank day e ds) (omega arith)
