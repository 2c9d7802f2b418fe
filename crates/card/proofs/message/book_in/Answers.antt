-- The message's own parts are what is booked.
use Rattle.state_conditions.specs.Stops.{field_short}
use Rattle.card.specs.Message.{booking_of_lem, booked_done}
use Rattle.card.proofs.message.book_in.Goals as goal

pub new-reference-requires-clause-short : goal.new-reference-requires-clause-short
new-reference-requires-clause-short c = field_short _ _ c.requires.books c.of-field.ensures

pub book_area-requires-clause-can_book : goal.book_area-requires-clause-can_book
book_area-requires-clause-can_book c = booking_of_lem _ _ c.requires.area_value _ c.requires.books c.added_by.ensures c.requires.value

pub returns : goal.returns
returns c = booked_done _ _ c.requires.area_value _ c.requires.books c.added_by.ensures c.requires.count_value c.of-field.ensures (rw (c.new-reference.ensures.bank, c.new-reference.ensures.text) at c.book_area.ensures)
