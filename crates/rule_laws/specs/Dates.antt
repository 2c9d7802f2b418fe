-- Dates that exist: six digits at most, and every date that is read.
use Rattle.std.specs.Prelude.{◌≡◌, refl, Bool, true, false, cond, List, ℕ, ◌/◌, ◌≤◌, ◌<◌, eqb, length}
use Rattle.std.proofs.Math.Option.{none, some}
use Rattle.std.proofs.Common.{arith, leb-true, eqb-true}
use Rattle.rules.specs.Text.{digits, then, given}
use Rattle.rules.specs.Dates.{exists, date}
use Rattle.laws.specs.Tests.{and_left, none_some}
use Rattle.rule_laws.specs.Options.{Came, came, Gave, gave}

-- an existing date has at most six digits
pub date_small : (n : ℕ) → exists n ≡ true → n < 1000000
unfolding exists
date_small n h = let y : n / 10000 ≤ 99 = leb-true _ 99 (and_left _ _ (and_left _ _ h)) in omega arith

-- a date that is read exists
pub date_exists : (cs : List ℕ) (d : ℕ) → date cs ≡ some d → exists d ≡ true
unfolding date
date_exists cs d h = go (eqb (length cs) 6) h
  where
    go : (t : Bool) → cond t (then (digits cs) (λ n. given (exists n) n)) none ≡ some d → exists d ≡ true
    go true k =
        let x : Came (digits cs) (λ n. given (exists n) n) d = came _ _ k in
        let g : Gave (exists x.value) x.value d = gave _ _ x.gives in
        rw g.is at g.test
    go false k = none_some k

-- it has six digits, of which it is the number
pub date_length : (cs : List ℕ) (d : ℕ) → date cs ≡ some d → length cs ≡ 6
unfolding date
date_length cs d h = go (eqb (length cs) 6) refl h
  where
    go : (t : Bool) → eqb (length cs) 6 ≡ t → cond t (then (digits cs) (λ n. given (exists n) n)) none ≡ some d → length cs ≡ 6
    go true e k = eqb-true (length cs) 6 e
    go false e k = none_some k

pub date_digits : (cs : List ℕ) (d : ℕ) → date cs ≡ some d → digits cs ≡ some d
unfolding date
date_digits cs d h = go (eqb (length cs) 6) h
  where
    go : (t : Bool) → cond t (then (digits cs) (λ n. given (exists n) n)) none ≡ some d → digits cs ≡ some d
    go true k =
        let x : Came (digits cs) (λ n. given (exists n) n) d = came _ _ k in
        let g : Gave (exists x.value) x.value d = gave _ _ x.gives in
        rw g.is at x.is
    go false k = none_some k
