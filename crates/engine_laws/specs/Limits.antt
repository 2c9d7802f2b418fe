-- An engine within its limits (10): the limits one by one, and that its numbers fit the bytes of the layout.
use Rattle.std.specs.Prelude.{◌≡◌, true, ℕ, ◌+◌, ◌*◌, ◌≤◌, length}
use Rattle.std.proofs.Common.{leb-true, le-leb}
use Rattle.rules.specs.Text.{is_some, ordered}
use Rattle.rules.specs.Dates.{exists}
use Rattle.rules.specs.BankingDays.{holidays}
use Rattle.rules.specs.Register.{register}
use Rattle.rules.specs.Engine.{Engine, earlier, is_bank, good_positions, precedes, good_references, within, last_bank}
use Rattle.laws.specs.Tests.{and_left, and_right}

-- "within the limits above"
pub record Limits (e : Engine) : Type 0 where
  pub register : is_some (register e.register) ≡ true
  pub holidays : is_some (holidays e.holidays) ≡ true
  pub day : exists e.day ≡ true
  pub few : length e.positions ≤ 32
  pub good : good_positions e.day e.positions ≡ true
  pub order : ordered earlier e.positions ≡ true
  pub references_few : length e.references ≤ 64
  pub forms : good_references e.references ≡ true
  pub filed : ordered precedes e.references ≡ true
  pub numbered : e.count ≤ 32 + 18 * length e.references

pub limits : (e : Engine) → within e ≡ true → Limits e
unfolding within
limits e h = record {
  register = search (and_left, and_right) depth 11;
  holidays = search (and_left, and_right) depth 11;
  day = search (and_left, and_right) depth 10;
  few = leb-true _ _ (search (and_left, and_right) depth 10);
  good = search (and_left, and_right) depth 10;
  order = search (and_left, and_right) depth 10;
  references_few = leb-true _ _ (search (and_left, and_right) depth 10);
  forms = search (and_left, and_right) depth 10;
  filed = search (and_left, and_right) depth 10;
  numbered = leb-true _ _ (search (and_left, and_right) depth 10);
}

pub limits_within : (e : Engine) → Limits e → within e ≡ true
unfolding within
limits_within e l = rw (l.register, l.holidays, l.day, le-leb _ _ l.few, l.good, l.order, le-leb _ _ l.references_few, l.forms, l.filed, le-leb _ _ l.numbered)

-- a bank fits eight bytes
pub bank_small : (n : ℕ) → is_bank n ≡ true → n ≤ last_bank
unfolding is_bank
bank_small n h = leb-true _ _ (and_left _ _ h)
