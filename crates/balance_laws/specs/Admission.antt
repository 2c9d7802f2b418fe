-- What is known of an accepted message: its posting lines can be read back, it is dated as 11 asks, and its details are worth something.
use Rattle.std.specs.Prelude.{◌≡◌, true, false, not, List, [], ◌∷◌, ℕ, ◌+◌, ◌^◌, ◌≤◌, ◌<◌, leb, eqb}
use Rattle.std.proofs.Math.Option.{some}
use Rattle.std.proofs.Common.{arith, eqb-true, leb-true}
use Rattle.std.proofs.lemmas.Bool.{eqb-false, not-false}
use Rattle.rules.specs.Text.{ascii, any, equal}
use Rattle.rules.specs.Messages.{Message, mt103, mt101, Detail, currency32b, read, sum_of_amounts}
use Rattle.rules.specs.Engine.{Engine, limit, last_bank, is_bank}
use Rattle.rules.specs.Calls.{bank_of, misdated, bad_sum, bad_amount, over_limit, position_after}
use Rattle.laws.specs.Tests.{and_right, or_left, or_right, any_left}
use Rattle.engine_laws.specs.Limits.{Limits, bank_small}
use Rattle.engine_laws.specs.Accepted.{Has, read_has, sender_bank}
use Rattle.rule_laws.specs.Clear.{Clear}
use Rattle.rule_laws.specs.Registers.{accounts_pass_of}
use Rattle.rule_laws.specs.Messages.{DetailsRead, DetailsRead.last, DetailsRead.more, ReadAs, ReadAs.transfer, ReadAs.order, read_as}
use Rattle.balance_laws.specs.Details.{read_sent}
use Rattle.balance_laws.specs.Accounts.{temporary_shape}
use Rattle.balance_laws.specs.Message.{Postable}
use Rattle.balance_laws.specs.Untouched.{Admitted, Admitted.transfer, Admitted.order}

small_sum : (v w : ℕ) → leb (v + w) limit ≡ true → w < 10 ^ 20
small_sum v w h = omega (arith, leb-true (v + w) limit h)

pub postable : (room : ℕ) (e : Engine) (s : List ℕ) (m : Message) → Limits e → read s ≡ some m → Clear room e s m → Postable e m
unfolding is_bank over_limit position_after
postable room e s m l r c =
    let a : Has s m = read_has s m r in
    let b : is_bank (bank_of m) ≡ true = rw a.sent (sender_bank s c.frame) in record {
      accounts = accounts_pass_of e.register l.register;
      book = record {
        known = and_right (leb (bank_of m) last_bank) _ b;
        small = omega (arith, bank_small (bank_of m) b);
        account = temporary_shape e.register l.register;
      };
      details = read_sent (read_as s m r);
      transferred = small_sum _ _ (not-false _ (or_left _ _ c.under));
      detailed = small_sum _ _ (not-false _ (or_right (not (leb (position_after e m).transferred limit)) _ c.under));
    }

pub admitted : (room : ℕ) (e : Engine) (s : List ℕ) (m : Message) → ReadAs s m → Clear room e s m → Admitted e.day m
unfolding misdated bad_amount bad_sum any sum_of_amounts
admitted room e s (mt103 t) (transfer r) c = transfer (eqb-true _ _ (not-false _ c.today))
admitted room e s (mt101 o) (order r) c = order (leb-true _ _ (not-false _ c.today)) (go r.details c.amounts)
  where
    worth : (d : Detail) (ds : List Detail) → any (λ (d : Detail). bad_sum (currency32b d) d.amount) (d ∷ ds) ≡ false → 1 ≤ sum_of_amounts (d ∷ ds)
    worth d ds h =
        let z : d.amount ≡ 0 → ⊥ = eqb-false d.amount 0 (or_right (not (equal (currency32b d) (ascii "BGN"))) (eqb d.amount 0) (any_left (bad_sum (currency32b d) d.amount) (any (λ (d : Detail). bad_sum (currency32b d) d.amount) ds) h)) in
        omega arith

    go : {ds : List Detail} → DetailsRead ds → any (λ (d : Detail). bad_sum (currency32b d) d.amount) ds ≡ false → 1 ≤ sum_of_amounts ds
    go (last {d = d} r) h = worth d [] h
    go (more {d = d} {ds = ds} r _) h = worth d ds h
