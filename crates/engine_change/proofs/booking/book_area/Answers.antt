-- The position, the reference and the numbers of the header, one after the other.
use Rattle.put.specs.Writes.{wrote_at}
use Rattle.engine_change.specs.Booking.{book_done}
use Rattle.engine_change.specs.Sets.{booking}
use borrow.Author.Rules.{rules}
use Rattle.engine_change.proofs.booking.book_area.Goals as goal

pub reference_place-i-requires : goal.reference_place-i-requires
reference_place-i-requires c = let h = rw c.held.ensures at c.header-h.ensures in search (booking, rules)

pub book_position-k-requires : goal.book_position-k-requires
book_position-k-requires c = let h = rw c.held.ensures at c.header-h.ensures in search (booking, rules)

pub file_reference-requires : goal.file_reference-requires
file_reference-requires c = let h = rw c.held.ensures at c.header-h.ensures in search (booking, rules)

pub overflow_add-header : goal.overflow_add-header
overflow_add-header c = let h = rw c.held.ensures at c.header-h.ensures in search (booking, rules)

pub put_header-requires : goal.put_header-requires
put_header-requires c = let h = rw c.held.ensures at c.header-h.ensures in search (booking, rules)

pub returns : goal.returns
returns c = book_done _ _ _ _ _ _ c.requires.holds_engine (rw c.held.ensures at c.header-h.ensures) c.requires.can_book c.reference_place-i.ensures c.book_position-k.ensures c.args.reference.short c.file_reference.ensures (wrote_at c.put_header.ensures c.new-w.ensures.output c.new-w.ensures.place (search rules))
