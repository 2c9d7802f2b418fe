-- `message_text::postings::put_postings` meets its contract: the line of a transfer, or those of the details.
use Rattle.std.proofs.Common.{ap}
use Rattle.conditions.specs.Books.{is_transfer}
use Rattle.message_text.specs.Postings.{transfer_posting, order_postings}
use Rattle.message_text.proofs.postings.put_postings.Goals as goal

pub returns-in-Transfer : goal.returns-in-Transfer
returns-in-Transfer c = transfer_posting _ _ c.requires.books _ _ _ c.temporary.ensures.account (ap is_transfer c.in-Transfer.is) c.put_from_bank.ensures

pub returns-in-Order : goal.returns-in-Order
returns-in-Order c = order_postings _ _ c.requires.books _ _ (ap is_transfer c.in-Order.is) c.put_detail_postings.ensures
