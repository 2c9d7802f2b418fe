use native.Mathlib.Omega.{arith}
use Rattle.message_text.specs.Parts.{parts_turn, parts_end}
use Rattle.message_text.proofs.verdicts.put_parts.Goals as goal

pub loop-k-preserved : goal.loop-k-preserved
loop-k-preserved c = parts_turn c.loop-k.invariant c.issue-r.ensures c.loop-k-test.true c.put_part-i.ensures

pub returns : goal.returns
returns c = parts_end c.loop-k.invariant c.loop-k-test.false (omega arith)
