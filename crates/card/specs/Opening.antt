-- Opening, one law for each way out of the call.
use Rattle.std.specs.Prelude.{◌≡◌, Bool, true, false, not, ℕ, ◌≤◌, leb, eqb, pos, length, drop}
use Rattle.std.proofs.Math.Path.{refl, sym}
use Rattle.std.proofs.Common.{◌∙◌, lit<}
use mathlib.Core.List.{List, [], ◌∷◌, ◌++◌}
use borrow.Author.Tests.{leb-true, not-true, not-false, ne_eqb}
use Rattle.rules.specs.Text.{is_some, over}
use Rattle.rules.specs.Dates.{exists}
use Rattle.rules.specs.BankingDays.{holidays, holidays_of, is_banking_day}
use Rattle.rules.specs.Register.{register}
use Rattle.rules.specs.Calls.{Stop, stop, first_of, open_stops, opened, accepted_opening, open_call}
use Rattle.rules.specs.Area.{card_open, encode, holds, area_size}
use Rattle.laws.specs.Tests.{passed_told}
use Rattle.rule_laws.specs.Conditions.{numbered, condition_of, none_holds}
use Rattle.banking_days.specs.Lists.{Banking}
use Rattle.card.specs.Answers.{Answers, answers_refused, answers_accepted}

-- ---- 9, 18 and 17, by what the register, the list and the day are

unfoldable pub text_stops : Bool → Bool → Bool → List Stop
text_stops registered listed banking = stop 9 (not registered) ∷ stop 18 (not listed) ∷ stop 17 (not banking) ∷ []

module _ (registered listed banking : Bool) where
  pub stop_register : not registered ≡ true → 9 ≡ first_of (text_stops registered listed banking)
  unfolding first_of text_stops
  stop_register h = rw h

  module _ (h : not registered ≡ false) where
    pub stop_list : not listed ≡ true → 18 ≡ first_of (text_stops registered listed banking)
    unfolding first_of text_stops
    stop_list k = rw (h, k)

    module _ (k : not listed ≡ false) where
      pub stop_closed : not banking ≡ true → 17 ≡ first_of (text_stops registered listed banking)
      unfolding first_of text_stops
      stop_closed l = rw (h, k, l)

      pub stop_none : not banking ≡ false → 0 ≡ first_of (text_stops registered listed banking)
      unfolding first_of text_stops
      stop_none l = rw (h, k, l)

-- of a list that does not pass nobody asks for the day
same_stop : (q w b c : Bool) → (w ≡ true → b ≡ c) → first_of (text_stops q w b) ≡ first_of (text_stops q w c)
unfolding first_of text_stops
same_stop q true b c f = rw (f refl)
same_stop q false b c f = refl

-- ---- the call

-- the register's text, the holiday list, the day and the area
module _ (text list : List ℕ) (day : ℕ) (area : List ℕ) where
  refusal : (k : ℕ) → first_of (open_stops (length area) text list day) ≡ k → eqb k 0 ≡ false → Answers (card_open text list day area) k 0 (pos 0) area []
  unfolding card_open open_call
  refusal = answers_refused (open_stops (length area) text list day) (holds area) (accepted_opening text list day) area []

  pub open_short : (z : Bool) → z ≡ leb area_size (length area) → not z ≡ true → Answers (card_open text list day area) 10 0 (pos 0) area []
  unfolding first_of open_stops
  open_short z y h = refusal 10 (rw (← y, not-true z h) refl) refl

  module _ (z : Bool) (y : z ≡ leb area_size (length area)) (h : not z ≡ false) where
    room : leb area_size (length area) ≡ true
    room = sym y ∙ not-false z h

    pub open_long : area_size ≤ length area
    open_long = leb-true area_size (length area) room

    module _ (t : Bool) (u : t ≡ exists day) where
      pub open_day : not t ≡ true → Answers (card_open text list day area) 3 0 (pos 0) area []
      unfolding first_of open_stops
      open_day d = refusal 3 (rw (room, ← u, not-true t d) refl) refl

      -- what was found of register, list and day, and the number that it gives
      module _ (d : not t ≡ false) (q : Bool) (v : q ≡ is_some (register text)) (w : Bool) (x : w ≡ is_some (holidays list)) (b : Bool) (c : Banking list day b) (k : ℕ) (e : k ≡ first_of (text_stops q w b)) where
        first : first_of (open_stops (length area) text list day) ≡ k
        unfolding first_of open_stops text_stops
        first = rw (room, ← u, not-false t d, ← v, ← x) (sym (e ∙ same_stop q w b (is_banking_day (holidays_of list) day) (λ g. c.same (sym x ∙ g))))

        pub open_stopped : (k ≡ 0 → ⊥) → Answers (card_open text list day area) k 0 (pos 0) area []
        open_stopped n = refusal k first (ne_eqb k 0 n)

        module _ (n : k ≡ 0) where
          pub open_registered : is_some (register text) ≡ true
          unfolding text_stops numbered condition_of
          open_registered = sym v ∙ not-false q (none_holds 9 (text_stops q w b) refl (sym e ∙ n))

          pub open_listed : is_some (holidays list) ≡ true
          unfolding text_stops numbered condition_of
          open_listed = sym x ∙ not-false w (none_holds 18 (text_stops q w b) refl (sym e ∙ n))

          pub open_accepted : {area' : List ℕ} → area' ≡ encode (opened text list day) ++ drop area_size area → Answers (card_open text list day area) 0 0 (pos 0) area' []
          unfolding card_open open_call accepted_opening over
          open_accepted {area'} a = answers_accepted _ (holds area) (accepted_opening text list day) area [] (first ∙ n) refl refl refl a refl (lit< tt)

pub ruleset opening = (passed_told, stop_register, stop_list, stop_closed, stop_none, open_short, open_long, open_day, open_stopped, open_registered, open_listed, open_accepted)
