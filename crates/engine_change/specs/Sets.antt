-- The laws that the search is handed at the needs of the steps.
use Rattle.laws.specs.Writing.{wrote_length}
use Rattle.put.specs.Writes.{writes_then}
use Rattle.laws.specs.Putting.{put_start}
use Rattle.laws.specs.Moving.{keeping_none, keeping_keep, keeping_skip, keeping_end, lowers}
use Rattle.engine_change.specs.Texts.{padded_wrote, text_wrote, length_wrote, none_wrote}
use Rattle.engine_change.specs.Header.{numbers_wrote}
use Rattle.engine_change.specs.Opening.{texts_room_lem, opened_wrote, opened_whole}
use Rattle.engine_change.specs.Turning.{stays_told, turn_done}
use Rattle.engine.specs.Records.{many}
use Rattle.engine_change.specs.Booking.{key_wrote, position_wrote, raised_small, raised_wrote, raise_fits, raise_done, insert_fits, insert_done, file_fits, book_done}
use Rattle.engine_change.specs.Filing.{today, file_end, file_on, file_here, files}

pub ruleset opening = (writes_then, wrote_length, numbers_wrote, padded_wrote, text_wrote, length_wrote, none_wrote, texts_room_lem, opened_wrote, opened_whole)

pub ruleset turning = (wrote_length, keeping_none, keeping_keep, keeping_skip, keeping_end, lowers, stays_told, turn_done)

pub ruleset booking = (writes_then, wrote_length, many, key_wrote, position_wrote, raised_small, raised_wrote, raise_fits, raise_done, insert_fits, insert_done, today, file_fits, book_done)

pub ruleset filing = (writes_then, wrote_length, put_start, file_end, file_on, file_here, files)
