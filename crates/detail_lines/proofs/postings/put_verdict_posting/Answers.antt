-- `detail_lines::postings::put_verdict_posting` meets its contract: a credit goes to the account line that the verdict names, a return to the bank.
use Rattle.detail_lines.specs.Postings.{crediting}
use borrow.Author.Rules.{rules}
use Rattle.detail_lines.proofs.postings.put_verdict_posting.Goals as goal

pub returns-in-Credited : goal.returns-in-Credited
returns-in-Credited c = search (crediting, rules)

pub returns-in-CreditedByCode : goal.returns-in-CreditedByCode
returns-in-CreditedByCode c = search (crediting, rules)

pub returns-in-Returned : goal.returns-in-Returned
returns-in-Returned c = search (crediting, rules)
