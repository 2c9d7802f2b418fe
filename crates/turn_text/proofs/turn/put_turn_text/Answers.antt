-- Posting lines, then messages.
use Rattle.turn_text.specs.Area.{turn_wrote}
use Rattle.turn_text.proofs.turn.put_turn_text.Goals as goal

pub returns : goal.returns
returns c = turn_wrote c.put_correction_postings.ensures c.put_corrections.ensures
