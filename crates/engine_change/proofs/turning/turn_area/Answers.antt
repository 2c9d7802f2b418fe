-- A turn made: positions, references and numbers are those of the engine then, and all else stays.
use Rattle.put.specs.Writes.{wrote_at}
use Rattle.engine_change.specs.Turning.{turn_done}
use borrow.Author.Rules.{rules}
use Rattle.engine_change.proofs.turning.turn_area.Goals as goal

pub returns : goal.returns
returns c = turn_done _ _ c.requires (rw c.held.ensures at c.header-h.ensures) c.remove_detailed-kept.ensures (wrote_at c.put_zeros.ensures c.at.ensures.output c.at.ensures.place (search rules)) (wrote_at c.put_header.ensures c.new.ensures.output c.new.ensures.place (search rules))
