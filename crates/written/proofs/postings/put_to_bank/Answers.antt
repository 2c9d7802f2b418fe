-- `written::postings::put_to_bank` meets its contract: a posting line whose debit is the temporary account and whose credit is the BIC.
use borrow.Author.Rules.{rules}
use Rattle.written.specs.Texts.{posting_parties}
use Rattle.written.proofs.postings.put_to_bank.Goals as goal

pub returns : goal.returns
returns c = search (posting_parties, rules)
