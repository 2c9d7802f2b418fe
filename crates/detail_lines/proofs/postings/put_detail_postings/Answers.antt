use Rattle.detail_lines.specs.Postings.{credits_more}
use Rattle.detail_lines.proofs.postings.put_detail_postings.Goals as goal

pub loop-j-preserved : goal.loop-j-preserved
loop-j-preserved c = credits_more _ _ _ c.requires _ c.loop-j-test.true _ _ c.loop-j.invariant (rw c.verdict.ensures.kept at c.put_verdict_posting.ensures)
