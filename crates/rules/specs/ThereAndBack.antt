-- Document 02, CR 6: "Old to new to old gives the bytes begun with.", new to old to new too where it works, and what `older` accepts; of the calls on outputs, whatever these are.
use Rattle.std.specs.Prelude.{◌≡◌, List, ℕ, ◌≤◌, length, take}
use Rattle.rules.specs.Area.{Result, card_newer, card_older}

-- the bytes that a call wrote
abbrev pub wrote : Result → List ℕ
wrote r = take r.written r.output

-- an accepted move to a text
pub record MovedTo (text : List ℕ) (r : Result) : Type 0 where
  pub accepted : r.number ≡ 0
  pub bytes : wrote r ≡ text

-- "Old to new to old gives the bytes begun with.", with room for them
abbrev pub OldAgain : Type 0
OldAgain =
    (old out out' : List ℕ)
    → (card_newer old out).number ≡ 0
    → length old ≤ length out'
    → MovedTo old (card_older (wrote (card_newer old out)) out')

-- "New to old .. works only without code lines": where it does, new to old to new gives them too
abbrev pub NewAgain : Type 0
NewAgain =
    (new out out' : List ℕ)
    → (card_older new out).number ≡ 0
    → length new ≤ length out'
    → MovedTo new (card_newer (wrote (card_older new out)) out')

-- an old text that moves to a text
pub record MovesTo (text : List ℕ) : Type 0 where
  pub old : List ℕ
  pub output : List ℕ
  pub moved : MovedTo text (card_newer old output)

-- what is accepted from new to old, and what is not
pub record AcceptedOlder (text : List ℕ) : Type 0 where
  -- an accepted text is one that some old text moves to
  pub only : (out : List ℕ) → (card_older text out).number ≡ 0 → MovesTo text
  -- and each such text is accepted with room for the old one
  pub each : (m : MovesTo text) (out : List ℕ) → length m.old ≤ length out → (card_older text out).number ≡ 0

-- "exactly" these
abbrev pub OlderExactly : Type 0
OlderExactly = (text : List ℕ) → AcceptedOlder text
