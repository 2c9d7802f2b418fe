-- The moves of a register's text: the texts of which none of their conditions holds.
use Rattle.std.specs.Prelude.{◌≡◌, ℕ, ◌≤◌, ◌<◌}
use Rattle.std.proofs.Math.Path.{refl}
use mathlib.Core.List.{List, [], ◌∷◌}
use Rattle.std.proofs.Math.Option.{some}
use Rattle.std.proofs.Common.{arith}
use Rattle.std.proofs.Math.ListN.{length}
use borrow.Author.Tests.{leb-true, leb-false, le-leb, not-false}
use Rattle.rules.specs.Register.{Register, register, register_of, old_register}
use Rattle.rules.specs.Calls.{Stop, first_of}
use Rattle.rules.specs.Moves.{with_end, without_end, has_codes, newer_stops, older_stops}
use Rattle.rule_laws.specs.Options.{There, there}
use Rattle.rule_laws.specs.Conditions.{numbered, condition_of, none_holds}

-- none of 9 and 16 holds of a move to the newer form
pub record NewerClear (room : ℕ) (text : List ℕ) : Type 0 where
  pub accounts : Register
  pub reads : old_register text ≡ some accounts
  pub fits : length (with_end text) ≤ room

-- none of 9, 19 and 16 of one to the older
pub record OlderClear (room : ℕ) (text : List ℕ) : Type 0 where
  pub accounts : Register
  pub reads : register text ≡ some accounts
  pub plain : accounts.codes ≡ []
  pub fits : length (without_end text) ≤ room

module _ (room : ℕ) (text : List ℕ) where
  pub newer_clear : first_of (newer_stops room text) ≡ 0 → NewerClear room text
  unfolding newer_stops numbered condition_of
  newer_clear h =
      let ss : List Stop = newer_stops room text in
      let t : There (old_register text) = there (old_register text) (not-false _ (none_holds 9 ss refl h)) in
      record { accounts = t.value; reads = t.is; fits = leb-true _ _ (not-false _ (none_holds 16 ss refl h)) }

  pub clear_newer : NewerClear room text → first_of (newer_stops room text) ≡ 0
  unfolding newer_stops first_of
  clear_newer c = rw (c.reads, le-leb _ _ c.fits)

  pub older_clear : first_of (older_stops room text) ≡ 0 → OlderClear room text
  unfolding older_stops numbered condition_of has_codes register_of
  older_clear h =
      let ss : List Stop = older_stops room text in
      let t : There (register text) = there (register text) (not-false _ (none_holds 9 ss refl h)) in
      record {
        accounts = t.value;
        reads = t.is;
        plain = none_of t.value.codes (leb-false 1 _ (rw t.is at (none_holds 19 ss refl h)));
        fits = leb-true _ _ (not-false _ (none_holds 16 ss refl h));
      }
    where
      none_of : {A : Type 0} (xs : List A) → length xs < 1 → xs ≡ []
      none_of [] h = refl
      none_of (x ∷ xs) h = absurd (omega arith)

  pub clear_older : OlderClear room text → first_of (older_stops room text) ≡ 0
  unfolding older_stops first_of has_codes register_of
  clear_older c = rw (c.reads, c.plain, le-leb _ _ c.fits)
