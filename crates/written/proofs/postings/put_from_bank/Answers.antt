-- `written::postings::put_from_bank` meets its contract: a posting line whose debit is the BIC and whose credit is the temporary account.
use borrow.Author.Rules.{rules}
use Rattle.written.specs.Texts.{posting_parties}
use Rattle.written.proofs.postings.put_from_bank.Goals as goal

pub returns : goal.returns
returns c = search (posting_parties, rules)
