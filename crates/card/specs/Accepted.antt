-- What a call tells: of an accepted one bytes written and difference, of a refused one its number.
use Rattle.std.specs.Prelude.{◌≡◌, List, ℕ, ℤ, pos, Result, Ok, Err}
use Rattle.rules.specs.Area as A
use Rattle.std.proofs.Common.{arith}
use Rattle.refusal.specs.Numbers.{number_of, stop_of, number_some}
use Rattle.refusal.specs.declared.Refusal.{Refusal}
use Rattle.card.specs.Answers.{Answers}
use Rattle.card.specs.declared.answer.Accepted.{Accepted}

abbrev pub number_in : Result Accepted Refusal → ℕ
number_in c = stop_of c

abbrev pub written_in : Result Accepted Refusal → ℕ
written_in (Ok a) = a.written
written_in (Err r) = 0

abbrev pub difference_in : Result Accepted Refusal → ℤ
difference_in (Ok a) = a.difference
difference_in (Err r) = pos 0

-- number, bytes written, difference, area and output are those of the definitions
abbrev pub Answered : A.Result → Result Accepted Refusal → List ℕ → List ℕ → Type 0
Answered r c area out = Answers r (number_in c) (written_in c) (difference_in c) area out

-- no number of a refusal is 0
pub number_above : (r : Refusal) → number_of r ≡ 0 → ⊥
number_above r z = omega (arith, number_some r)
