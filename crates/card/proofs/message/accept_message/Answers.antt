-- What is written, told and booked is the message's.
use borrow.Author.Rules.{rules}
use Rattle.card.specs.Message.{sent_done}
use Rattle.card.specs.Minus.{difference_is}
use Rattle.card.proofs.message.accept_message.Goals as goal

pub returns : goal.returns
returns c = let r = c.requires.ready in sent_done r c.requires.fits (rw c.held-engine.ensures at c.put_message_text-count.ensures) c.new-w.ensures.output c.new-w.ensures.place (search rules) (difference_is _ _ r.leaves.transferred_small r.leaves.detailed_small) c.book_in.ensures
