-- What a call answers: number, bytes written, difference, area and output equal what document 01 gives.
use Rattle.std.specs.Prelude.{◌≡◌, refl, false, List, ◌++◌, ℕ, ◌<◌, ◌^◌, eqb, ℤ, pos, length, drop}
use Rattle.std.proofs.Math.Option.{Option, none, some}
use Rattle.std.proofs.Math.Dec.{lit<}
use Rattle.std.specs.Int.Signed.{mag}
use Rattle.rules.specs.Text.{over}
use Rattle.rules.specs.Engine.{Engine}
use Rattle.rules.specs.Calls.{Stop, first_of, Answer, answered}
use Rattle.rules.specs.Moves.{writing}
use Rattle.rules.specs.Area.{Result, encode, stored, on_areas, area_size}
use Rattle.rule_laws.specs.Conditions.{answered_refused, answered_accepted}

pub record Answers (r : Result) (k n : ℕ) (d : ℤ) (a out : List ℕ) : Type 0 where
  pub number : k ≡ r.number
  pub written : n ≡ r.written
  pub difference : d ≡ r.difference
  pub area : a ≡ r.area
  pub output : out ≡ r.output
  pub small : mag d < 2 ^ 63

-- ---- any call, by its conditions

module _ (ss : List Stop) (engine : Option Engine) (a : Answer) (area out : List ℕ) where
  pub answers_refused : (k : ℕ) → first_of ss ≡ k → eqb k 0 ≡ false → Answers (on_areas (answered ss engine a) area out) k 0 (pos 0) area out
  unfolding on_areas
  answers_refused k e n = rw (answered_refused ss engine a k e n, n) record { number = refl; written = refl; difference = refl; area = refl; output = refl; small = lit< tt }

  pub answers_accepted : {text : List ℕ} {d : ℤ} {next : Engine} → first_of ss ≡ 0 → a ≡ record { number = 0; text = text; difference = d; next = some next } → {n : ℕ} {z : ℤ} {area' out' : List ℕ}
      → n ≡ length text → z ≡ d → area' ≡ encode next ++ drop area_size area → out' ≡ over text out → mag z < 2 ^ 63 → Answers (on_areas (answered ss engine a) area out) 0 n z area' out'
  unfolding on_areas stored
  answers_accepted e f w d r o m = rw (answered_accepted ss engine a e, f) record { number = refl; written = w; difference = d; area = r; output = o; small = m }

  -- a call that changes no engine
  pub answers_written : {text : List ℕ} → first_of ss ≡ 0 → engine ≡ none → a ≡ writing engine text → {n : ℕ} {out' : List ℕ} → n ≡ length text → out' ≡ over text out → Answers (on_areas (answered ss engine a) area out) 0 n (pos 0) area out'
  unfolding on_areas stored
  answers_written e f g w o = rw (answered_accepted ss engine a e, g, f) record { number = refl; written = w; difference = refl; area = refl; output = o; small = lit< tt }
