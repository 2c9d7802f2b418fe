use Rattle.verdict.specs.Details.{kept_in, kept_at}
use Rattle.message_text.specs.Returns.{returns_pass, returns_turn, returns_end}
use Rattle.message_text.proofs.returns.put_returns.Goals as goal
use Rattle.message_text.proofs.returns.put_returns.Goals.{then-is_returned, else-is_returned}

pub put_detail_return-requires-clause-branch_within : goal.put_detail_return-requires-clause-branch_within
put_detail_return-requires-clause-branch_within c = (kept_at _ _ (kept_in _ _ c.args.details.its) _ c.loop-j-test.true _).branch.inside

pub put_detail_return-requires-clause-payer_within : goal.put_detail_return-requires-clause-payer_within
put_detail_return-requires-clause-payer_within c = (kept_at _ _ (kept_in _ _ c.args.details.its) _ c.loop-j-test.true _).payer.inside

pub loop-j-preserved : goal.loop-j-preserved
loop-j-preserved c = elim c.if-is_returned.branch [
  | then-is_returned w ↦ rw (w.o-is, w.w-is) (returns_turn (kept_in _ _ c.args.details.its) c.loop-j.invariant c.loop-j-test.true _ _ (rw c.verdict.ensures.kept at c.is_returned.ensures) w.if-is_returned.true _ w.temporary.ensures.account w.issue-r.ensures w.put_detail_return.ensures)
  | else-is_returned w ↦ rw (w.o-is, w.w-is) (returns_pass (kept_in _ _ c.args.details.its) c.loop-j.invariant c.loop-j-test.true _ _ (rw c.verdict.ensures.kept at c.is_returned.ensures) w.if-is_returned.false)
]

pub returns : goal.returns
returns c = returns_end (kept_in _ _ c.args.details.its) c.loop-j.invariant c.loop-j-test.false
