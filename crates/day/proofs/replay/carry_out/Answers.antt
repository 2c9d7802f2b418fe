-- What the call answered is printed.
use Rattle.day.specs.Replaying.{carried_out}
use Rattle.day.proofs.replay.carry_out.Goals as goal

pub returns : goal.returns
returns c = carried_out c.perform-outcome.ensures c.put_answer.ensures
