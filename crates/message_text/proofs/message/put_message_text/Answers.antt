-- `message_text::message::put_message_text` meets its contract: the posting lines, behind them the parts and the returns.
use Rattle.message_text.specs.Message.{message_wrote}
use Rattle.message_text.proofs.message.put_message_text.Goals as goal

pub returns : goal.returns
returns c = message_wrote _ _ _ c.register-register.ensures _ c.requires.judged_in _ c.header-h.ensures _ c.requires.books _ c.requires.leaves c.parts_for-parts.ensures c.put_postings.ensures c.put_parts.ensures c.put_returns.ensures
