-- A call that changes no engine: it answers the first of its conditions that holds, and writes its text where none does and else nothing.
use Rattle.std.specs.Prelude.{◌≡◌, Bool, List, [], ℕ, length, drop}
use Rattle.std.proofs.Math.Path.{refl}
use Rattle.std.proofs.Common.{sym, ◌∙◌, eqb-true}
use Rattle.std.proofs.Math.Bool.{true, false}
use Rattle.std.proofs.Math.Option.{Option}
use Rattle.std.proofs.Math.Dec.{eqb}
use Rattle.std.proofs.Math.Seq.{take_at}
use Rattle.std.proofs.lemmas.Bool.{eqb-false}
use Rattle.rules.specs.Text.{over}
use Rattle.rules.specs.Engine.{Engine}
use Rattle.rules.specs.Calls.{Stop, first_of, answered}
use Rattle.rules.specs.Moves.{writing}
use Rattle.rules.specs.Area.{Result, on_areas}
use Rattle.rules.specs.ThereAndBack.{wrote, MovedTo}

-- the bytes that it writes
pub data Writes (ss : List Stop) (text : List ℕ) : List ℕ → Type 0 where
  all : first_of ss ≡ 0 → Writes ss text text
  nothing : (first_of ss ≡ 0 → ⊥) → Writes ss text []

module _ (ss : List Stop) (engine : Option Engine) (text area out : List ℕ) where
  abbrev done : Result
  done = on_areas (answered ss engine (writing engine text)) area out

  pub service_writes : Writes ss text (wrote done)
  unfolding on_areas answered over
  service_writes = go (eqb (first_of ss) 0) refl
    where
      go : (t : Bool) → eqb (first_of ss) 0 ≡ t → Writes ss text (wrote done)
      go true e = rw (e, take_at text (drop (length text) out) (length text) refl) (all (eqb-true (first_of ss) 0 e))
      go false e = rw (e, e) (nothing (eqb-false (first_of ss) 0 e))

  service_number : done.number ≡ first_of ss
  unfolding on_areas answered
  service_number = go (eqb (first_of ss) 0) refl
    where
      go : (t : Bool) → eqb (first_of ss) 0 ≡ t → done.number ≡ first_of ss
      go true e = rw (eqb-true (first_of ss) 0 e)
      go false e = rw (e, e)

  -- it is accepted exactly if none of its conditions holds
  pub service_clear : done.number ≡ 0 → first_of ss ≡ 0
  service_clear h = sym service_number ∙ h

  pub service_done : first_of ss ≡ 0 → MovedTo text done
  service_done h = record { accepted = service_number ∙ h; bytes = go service_writes }
    where
      go : {bs : List ℕ} → Writes ss text bs → bs ≡ text
      go (all k) = refl
      go (nothing n) = absurd (n h)
