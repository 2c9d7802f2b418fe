-- The moves of a register's text, there and back: an old text with its last line is a register without codes, and the text before the last line of such a register is an old text.
use Rattle.std.specs.Prelude.{◌≡◌, ℕ, ◌≤◌, length}
use mathlib.Core.List.{List, []}
use Rattle.std.proofs.Math.Option.{none}
use Rattle.std.proofs.Common.{arith}
use Rattle.rules.specs.Moves.{with_end, without_end, newer_stops, older_stops, newer_call, older_call}
use Rattle.rules.specs.Area.{card_newer, card_older}
use Rattle.rules.specs.ThereAndBack.{wrote, MovedTo, OldAgain, NewAgain, OlderExactly}
use Rattle.rule_laws.specs.Registers.{old_read}
use Rattle.rule_laws.specs.Endings.{without_with, register_whole, old_newer, newer_old}
use Rattle.rule_laws.specs.Services.{service_clear, service_done}
use Rattle.rule_laws.specs.Moves.{NewerClear, newer_clear, clear_newer, OlderClear, older_clear, clear_older}

-- ---- one move

module _ (text out : List ℕ) where
  -- accepted, it is clear of its conditions; and where it is, its text is written
  newer_accepted : (card_newer text out).number ≡ 0 → NewerClear (length out) text
  unfolding card_newer newer_call
  newer_accepted h = newer_clear (length out) text (service_clear (newer_stops (length out) text) none (with_end text) [] out h)

  newer_moves : NewerClear (length out) text → MovedTo (with_end text) (card_newer text out)
  unfolding card_newer newer_call
  newer_moves c = service_done (newer_stops (length out) text) none (with_end text) [] out (clear_newer (length out) text c)

  older_accepted : (card_older text out).number ≡ 0 → OlderClear (length out) text
  unfolding card_older older_call
  older_accepted h = older_clear (length out) text (service_clear (older_stops (length out) text) none (without_end text) [] out h)

  older_moves : OlderClear (length out) text → MovedTo (without_end text) (card_older text out)
  unfolding card_older older_call
  older_moves c = service_done (older_stops (length out) text) none (without_end text) [] out (clear_older (length out) text c)

-- ---- and the other behind it

-- what can be moved to the newer form can be moved back, with room for it
newer_back : (old : List ℕ) {room : ℕ} → NewerClear room old → (room' : ℕ) → length old ≤ room' → OlderClear room' (with_end old)
newer_back old c room' h = record {
  accounts = c.accounts;
  reads = old_newer old c.accounts c.reads;
  plain = (old_read old c.accounts c.reads).codes;
  fits = rw (without_with old) h;
}

older_back : (new : List ℕ) {room : ℕ} → OlderClear room new → (room' : ℕ) → length new ≤ room' → NewerClear room' (without_end new)
older_back new c room' h =
    let w : with_end (without_end new) ≡ new = register_whole new c.accounts c.reads in
    record { accounts = c.accounts; reads = newer_old (without_end new) c.accounts (rw w c.reads) c.plain; fits = rw w h }

pub old_again : OldAgain
old_again old out out' h k =
    let c : NewerClear (length out) old = newer_accepted old out h in
    rw (newer_moves old out c).bytes (rw (without_with old) at (older_moves (with_end old) out' (newer_back old c (length out') k)))

pub new_again : NewAgain
new_again new out out' h k =
    let c : OlderClear (length out) new = older_accepted new out h in
    rw (older_moves new out c).bytes (rw (register_whole new c.accounts c.reads) at (newer_moves (without_end new) out' (older_back new c (length out') k)))

-- ---- what is moved to the older form

pub older_exactly : OlderExactly
older_exactly text = record {
  only = λ out h. record { old = wrote (card_older text out); output = text; moved = new_again text out text h (omega arith) };
  each = λ m out k. rw (← m.moved.bytes) (old_again m.old m.output out m.moved.accepted k).accepted;
}
