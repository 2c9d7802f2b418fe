-- Code lines change nothing else: with a register without them all is as it was.
use Rattle.std.specs.Prelude.{◌≡◌, true, List, ℕ}
use Rattle.std.proofs.Math.Option.{some}
use Rattle.rules.specs.Register.{register_of}
use Rattle.rules.specs.Engine.{Engine}
use Rattle.rules.specs.Calls.{first_of, answered, open_stops, open_call, turn_text, turn_stops, accepted_turn, turn_call}
use Rattle.rules.specs.Moves.{with_end}
use Rattle.rules.specs.Area.{card_open, card_message, card_turn}
use Rattle.rules.specs.WithoutCodes.{has_no_codes, plain_opening, plain_turn_text, plain_turn, WithoutCodes}
use Rattle.code_laws.specs.Reading.{register_plain, codes_none}
use Rattle.code_laws.specs.Message.{call_plain}

-- a turn asks of a register its temporary account alone
turn_plain : (old : List ℕ) → has_no_codes old ≡ true → (room : ℕ) (e : Engine) → e.register ≡ with_end old → (day : ℕ) → turn_call room (some e) day ≡ plain_turn room old e day
unfolding turn_call turn_stops accepted_turn turn_text register_of plain_turn plain_turn_text answered first_of
turn_plain old h room e t day = rw (t, register_plain old h)

pub without_codes : WithoutCodes
unfolding card_open card_message card_turn open_call open_stops plain_opening
without_codes old h = record {
  reading = register_plain old h;
  opening = λ list day area. rw (register_plain old h);
  message = λ s area out e k t. rw (k, call_plain e (rw t (codes_none old h)));
  turn = λ day area out e k t. rw (k, turn_plain old h _ e t day);
}
