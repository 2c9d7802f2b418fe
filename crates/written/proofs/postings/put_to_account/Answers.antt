-- `written::postings::put_to_account` meets its contract: a posting line whose debit is the temporary account.
use borrow.Author.Rules.{rules}
use Rattle.written.specs.Texts.{posting_parties}
use Rattle.written.proofs.postings.put_to_account.Goals as goal

pub returns : goal.returns
returns c = search (posting_parties, rules)
