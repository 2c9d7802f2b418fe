-- An opening: its parts are written from the first byte on and fill 6,144 bytes, since a register and a holiday list have room.
use Rattle.put.specs.Writes.{wrote_at}
use Rattle.engine_change.specs.Opening.{texts_room_lem, opened_whole}
use borrow.Author.Rules.{rules}
use Rattle.engine_change.proofs.opening.open_area.Goals as goal

pub invariant_of-opening : goal.invariant_of-opening
invariant_of-opening c = record { room = texts_room_lem c.args.text.now c.args.list.now c.requires.text_value c.requires.list_value }

pub returns : goal.returns
returns c = opened_whole _ _ _ c.requires.area_size_in_bounds c.requires.text_value c.requires.list_value (wrote_at c.put_area.ensures c.new.ensures.output c.new.ensures.place (search rules))
