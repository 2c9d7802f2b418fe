use native.Mathlib.Omega.{arith}
use Rattle.std.proofs.Common.{sym, ◌∙◌}
use Rattle.engine.specs.Lookup.{positions_are}
use Rattle.turn_text.specs.Turn.{postings_more, postings_skip, postings_end}
use Rattle.turn_text.proofs.turn.put_correction_postings.Goals as goal
use Rattle.turn_text.proofs.turn.put_correction_postings.Goals.{then-is_corrected, else-is_corrected}

pub loop-i-preserved : goal.loop-i-preserved
loop-i-preserved c =
    elim c.if-is_corrected.branch [
      | then-is_corrected w ↦ rw w.w-is (postings_more c.loop-i.invariant c.loop-i-test.true c.position-p.ensures (sym w.if-is_corrected.true ∙ c.is_corrected.ensures) w.put_correction_posting.ensures)
      | else-is_corrected w ↦ rw w.w-is (postings_skip c.loop-i.invariant c.loop-i-test.true c.position-p.ensures (sym w.if-is_corrected.false ∙ c.is_corrected.ensures))
    ]

pub returns : goal.returns
returns c = rw c.temporary-temporary.ensures at (postings_end c.loop-i.invariant (positions_are _ c.args.engine.holds _ c.header-n.ensures) (omega arith))
