-- The laws that the search is handed at the needs of a writer, and of a function over sections of records.
use Rattle.laws.specs.Writing.{ahead_none, laid_none, laid_outside, laid_inside, ahead_part, wrote_then, end_wrote, part_wrote, left_length, copy_turn, copy_end, copy_start, copy_on, fill_turn, fill_end, ahead_filled, filled_wrote, zeros_wrote}
use Rattle.laws.specs.Digits.{ahead_places}
use Rattle.laws.specs.Moving.{moving_none, moving_up, moving_down, moving_end, keeping_none, keeping_keep, keeping_skip, keeping_end, opens, lowers}

pub ruleset writing = (ahead_none, ahead_part, ahead_places, laid_none, laid_outside, laid_inside, wrote_then, end_wrote, part_wrote, left_length, copy_turn, copy_end, copy_start, copy_on, fill_turn, fill_end, ahead_filled, filled_wrote, zeros_wrote)

pub ruleset moving = (moving_none, moving_up, moving_down, moving_end, keeping_none, keeping_keep, keeping_skip, keeping_end, opens, lowers)
