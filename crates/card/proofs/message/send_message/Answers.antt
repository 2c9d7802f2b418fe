-- 16, or the message is written and booked.
use native.Mathlib.Omega.{arith}
use Rattle.card.specs.Message.{text_fits_lem, sent_room, sent_made}
use Rattle.card.proofs.message.send_message.Goals as goal

pub returns-then-output-size : goal.returns-then-output-size
returns-then-output-size c = sent_room _ _ c.requires.holds_engine _ c.requires.passes c.args.output.now c.requires.none_holds (rw c.held.ensures at c.message_size-size.ensures) c.if-output-size.true

pub accept_message-requires-clause-fits : goal.accept_message-requires-clause-fits
accept_message-requires-clause-fits c = text_fits_lem c.args.output.now (rw c.held.ensures at c.message_size-size.ensures) c.if-output-size.false (omega (arith, c.well_formed))

pub returns : goal.returns
returns c = sent_made _ _ c.requires.holds_engine _ c.requires.passes c.args.output.now c.requires.none_holds (rw c.held.ensures at c.message_size-size.ensures) c.if-output-size.false (omega (arith, c.well_formed)) c.accept_message.ensures
