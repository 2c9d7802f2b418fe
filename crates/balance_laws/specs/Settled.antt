-- One accepted call on the ledger: what comes in with it and what goes out are what it changes of the bank's totals.
use Rattle.std.specs.Prelude.{◌≡◌, refl, List, ℕ, ◌+◌}
use Rattle.std.proofs.Common.{arith}
use Rattle.rules.specs.Messages.{Message, transferred_by, detailed_by}
use Rattle.rules.specs.Engine.{Position, raised, kept}
use Rattle.rules.specs.Calls.{bank_of, addition}
use Rattle.rules.specs.Ledger.{entered, transferred_of, detailed_of}
use Rattle.rule_laws.specs.Keys.{same_keys}
use Rattle.balance_laws.specs.Kinds.{mine}
use Rattle.balance_laws.specs.Tally.{Measure, tally, SameEntries, only, of_bank, transfers, details, transferred_tally, detailed_tally}
use Rattle.balance_laws.specs.Booking.{total_entered}
use Rattle.balance_laws.specs.Turn.{closed, nothing, turn_settles}

-- v comes in for a bank and w goes out, and its ledger goes from one state to the next
pub record Settles (bank v w : ℕ) (ledger next : List Position) : Type 0 where
  pub balance : v + transferred_of bank ledger + detailed_of bank next ≡ w + detailed_of bank ledger + transferred_of bank next

-- nothing is written and nothing booked
pub settles_none : (bank : ℕ) (ledger : List Position) → Settles bank 0 0 ledger ledger
settles_none bank ledger = record { balance = omega arith }

-- one after the other
pub settles_then : {bank u v w x : ℕ} {ledger next last : List Position} → Settles bank u v ledger next → Settles bank w x next last → Settles bank (u + w) (v + x) ledger last
settles_then s t = record { balance = omega (arith, s.balance, t.balance) }

-- a total of one bank grows by what is entered for it
bank_entered : (v : Measure) (bank : ℕ) (q : Position) → ((p : Position) → v (raised p q) ≡ v p + v q) → (ledger : List Position)
    → tally (only (of_bank bank) v) (entered q ledger) ≡ tally (only (of_bank bank) v) ledger + only (of_bank bank) v q
unfolding of_bank
bank_entered v bank q adds ledger =
    total_entered (of_bank bank) v q (λ p h. rw (same_keys p.key q.key h)) (λ p. refl) adds ledger

-- an accepted message
pub message_settles : (bank : ℕ) (m : Message) (ledger : List Position)
    → Settles bank (mine bank (bank_of m) (transferred_by m)) (mine bank (bank_of m) (detailed_by m)) ledger (entered (addition m) ledger)
unfolding mine only of_bank
message_settles bank m ledger = record {
  balance =
      omega (
        arith,
        transferred_tally bank ledger,
        detailed_tally bank ledger,
        transferred_tally bank (entered (addition m) ledger),
        detailed_tally bank (entered (addition m) ledger),
        bank_entered transfers bank (addition m) (λ p. refl) ledger,
        bank_entered details bank (addition m) (λ p. refl) ledger,
      );
}

-- an accepted turn, by positions that are the ledger's
pub settles_turn : (bank : ℕ) (ps ledger : List Position) → SameEntries ps ledger
    → Settles bank (tally (closed nothing (mine bank)) ps) (tally (closed (mine bank) nothing) ps) ledger (kept ledger)
settles_turn bank ps ledger s = record {
  balance =
      omega (arith, turn_settles bank ledger, s.sums (closed nothing (mine bank)), s.sums (closed (mine bank) nothing));
}
