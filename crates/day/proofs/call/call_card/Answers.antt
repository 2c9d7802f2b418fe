-- By what the command is: its call answers, an opening leaves the output, and a move the area.
use Rattle.day.specs.Told.{result_open, result_turn, result_message, result_newer, result_older}
use Rattle.day.proofs.call.call_card.Goals as goal

pub returns-in-Opens : goal.returns-in-Opens
returns-in-Opens c = result_open _ _ _ _ _ _ c.in-Opens.is c.card_open.ensures

pub returns-in-Message : goal.returns-in-Message
returns-in-Message c = result_message _ _ _ _ _ c.in-Hands.is c.in-Message.is c.card_message.ensures

pub returns-in-Newer : goal.returns-in-Newer
returns-in-Newer c = result_newer _ _ _ _ _ c.in-Hands.is c.in-Newer.is c.card_newer.ensures

pub returns-in-Older : goal.returns-in-Older
returns-in-Older c = result_older _ _ _ _ _ c.in-Hands.is c.in-Older.is c.card_older.ensures

pub returns-in-Turns : goal.returns-in-Turns
returns-in-Turns c = result_turn _ _ _ _ c.in-Turns.is c.card_turn.ensures
