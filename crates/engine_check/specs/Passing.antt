-- A text of an area, whatever tests it: the answer is that of every test that says what the call answers.
use Rattle.std.specs.Prelude.{◌≡◌, Bool, List, ℕ}
use Rattle.std.specs.Borrow.{Bor}
use Rattle.engine_laws.specs.Tests.{text_test}

-- a call on a text answers as a test does
abbrev pub Answers : (Bor (List ℕ) → Bool → Type 0) → (List ℕ → Bool) → Type 0
Answers post test = (t : Bor (List ℕ)) (q : Bool) → post t q → q ≡ test t.now

-- of at most m bytes, text k passes it
abbrev pub Passes : (Bor (List ℕ) → Bool → Type 0) → ℕ → List ℕ → ℕ → Bool → Type 0
Passes post m a k r = (test : List ℕ → Bool) → Answers post test → r ≡ text_test m test a k
