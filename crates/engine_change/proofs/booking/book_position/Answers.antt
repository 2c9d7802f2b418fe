-- An open position is raised at its place; a missing one is put there, those behind it moved up.
use Rattle.put.specs.Writes.{wrote_at}
use Rattle.engine_change.specs.Booking.{raise_fits, insert_done}
use Rattle.engine_change.specs.Sets.{booking}
use borrow.Author.Rules.{rules}
use Rattle.engine_change.proofs.booking.book_position.Goals as goal

pub raise-requires : goal.raise-requires
raise-requires c = raise_fits _ _ _ _ c.requires.many c.place_of-i.ensures _ c.position_place-at.ensures _ c.is_at.ensures (search rules) c.requires.can_book

pub returns-then-is_at : goal.returns-then-is_at
returns-then-is_at c = search (booking, rules)

pub returns : goal.returns
returns c = insert_done _ _ _ _ c.requires.many c.place_of-i.ensures _ c.position_place-at.ensures _ c.is_at.ensures (search rules) c.requires.area_value c.requires.can_book c.open_record.ensures (wrote_at c.put_position.ensures c.at-w.ensures.output c.at-w.ensures.place (search rules))
