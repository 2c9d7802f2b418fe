-- `detail_lines::postings::put_detail_postings` meets its contract. The loop's invariant: the posting lines of the details from j on are left to write.
use Rattle.std.specs.Prelude.{drop}
use Rattle.rules.specs.Calls.{detail_postings}
use Rattle.rules.specs.Register.{register_of}
use Rattle.put.specs.Writes.{Unwritten}
use Rattle.details.specs.Message.{details_in}
use Rattle.detail_lines.specs.Postings.{book_by}
use Rattle.detail_lines.proofs.postings.put_detail_postings.Given as goal

abbrev pub invariant-loop-j : goal.invariant-loop-j
invariant-loop-j l = Unwritten (detail_postings (register_of l.register.text.now) (book_by l.register.text.now l.book) (drop l.j-index (details_in l.details.message.now))) l.w (detail_postings (register_of l.register.text.now) (book_by l.register.text.now l.book) (details_in l.details.message.now)) l.initial.w
