use Rattle.put.specs.Writes.{wrote_at}
use Rattle.laws.specs.Moving.{keeping_keep, keeping_skip, keeping_end}
use borrow.Author.Rules.{rules}
use Rattle.engine_change.specs.Sets.{turning}
use Rattle.engine_change.proofs.turning.remove_detailed.Goals as goal
use Rattle.engine_change.proofs.turning.remove_detailed.Goals.{then-stays_at, else-stays_at}

pub loop-i-init : goal.loop-i-init
loop-i-init c = search (turning, rules)

pub loop-i-preserved : goal.loop-i-preserved
loop-i-preserved c = elim c.if-stays_at.branch [
  | then-stays_at w ↦ rw (w.j-is, w.area-is) (keeping_keep c.loop-i.invariant c.loop-i-test.true c.stays_at.ensures w.if-stays_at.true w.keep_record.ensures)
  | else-stays_at w ↦ rw (w.j-is, w.area-is) (keeping_skip c.loop-i.invariant c.loop-i-test.true c.stays_at.ensures w.if-stays_at.false)
]

pub returns : goal.returns
returns c = keeping_end c.loop-i.invariant (search rules) (wrote_at c.put_zeros.ensures c.at-w.ensures.output c.at-w.ensures.place (search rules))
