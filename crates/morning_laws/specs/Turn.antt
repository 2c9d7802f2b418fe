-- The turn behind a morning reads nothing of references and outgoing number: "References and the outgoing number start anew, before corrections are numbered."
use Rattle.std.specs.Prelude.{◌≡◌, refl, Bool, true, false, cond, List, [], ◌++◌, eqb, ℤ, length, drop}
use Rattle.std.proofs.Common.{sym, ap, ◌∙◌, take_at, eqb-true}
use Rattle.std.proofs.Math.Option.{Option, some}
use Prim.Native.Nat.{ℕ}
use Rattle.std.proofs.lemmas.Bool.{eqb-false}
use Rattle.rules.specs.Text.{over}
use Rattle.rules.specs.Engine.{Position, Reference, Engine}
use Rattle.rules.specs.Calls.{first_of, Answer, refused, answered, turn_text, turn_stops, after_turn, accepted_turn, turn_call}
use Rattle.rules.specs.Area.{area_size, encode, holds, stored, on_areas, card_turn}
use Rattle.rules.specs.SameMornings.{SameTurn}
use Rattle.morning_laws.specs.Sent.{later}

-- one answer on two areas, whatever engine each of them keeps
pub on_same : (k : ℕ) (text : List ℕ) (d : ℤ) (o p : Option Engine) (area area' out out' : List ℕ) → (k ≡ 0 → stored o area ≡ stored p area')
    → SameTurn (on_areas record { number = k; text = text; difference = d; next = o } area out) (on_areas record { number = k; text = text; difference = d; next = p } area' out')
unfolding on_areas over
on_same k text d o p area area' out out' h = go (eqb k 0) refl
  where
    go : (t : Bool) → eqb k 0 ≡ t → SameTurn (on_areas record { number = k; text = text; difference = d; next = o } area out) (on_areas record { number = k; text = text; difference = d; next = p } area' out')
    go true i = rw i record { number = refl; written = refl; bytes = take_at text _ _ refl ∙ sym (take_at text _ _ refl); difference = refl; area = λ z. h (eqb-true _ _ i) }
    go false i = rw i record { number = refl; written = refl; bytes = refl; difference = refl; area = λ z. absurd (eqb-false _ _ i z) }

-- two engines of one day with the same positions
module _ (e : Engine) (ps : List Position) (rs rs' : List Reference) (n n' day : ℕ) (area area' out out' : List ℕ) where
  pub later_turn : holds area ≡ some (later e ps rs n) → holds area' ≡ some (later e ps rs' n') → drop area_size area ≡ drop area_size area' → length out ≡ length out' → SameTurn (card_turn day area out) (card_turn day area' out')
  unfolding card_turn turn_call turn_stops turn_text accepted_turn after_turn answered stored
  later_turn h h' b l = rw (h, h', ← l) (go (eqb k 0) refl)
    where
      k : ℕ
      k = first_of (turn_stops (length out) (some (later e ps rs n)) day)

      a : Answer
      a = accepted_turn (some (later e ps rs n)) day

      go : (t : Bool) → eqb k 0 ≡ t → SameTurn (on_areas (cond t a (refused k (some (later e ps rs n)))) area out) (on_areas (cond t a (refused k (some (later e ps rs' n')))) area' out')
      go true i = on_same 0 _ _ a.next a.next area area' out out' (λ z. ap (λ (cs : List ℕ). encode (after_turn (later e ps rs n) day) ++ cs) b)
      go false i = on_same k [] _ _ _ area area' out out' (λ z. absurd (eqb-false k 0 i z))
