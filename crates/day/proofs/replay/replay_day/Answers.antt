-- From command to command; behind the last nothing is left.
use borrow.Author.Rules.{rules}
use Rattle.put.specs.Writes.{wrote_at}
use Rattle.std.proofs.Common.{sym}
use Rattle.commands.specs.Pieces.{command_behind}
use Rattle.day.specs.Replaying.{replay_goes, replay_ends}
use Rattle.day.proofs.replay.replay_day.Goals as goal

pub loop-command-smaller : goal.loop-command-smaller
loop-command-smaller c = command_behind _ _ (sym c.in-Some.ensures)

pub loop-command-preserved : goal.loop-command-preserved
loop-command-preserved c = replay_goes c.loop-command.invariant c.in-Some.ensures c.carry_out.ensures

pub returns : goal.returns
returns c = wrote_at (replay_ends c.loop-command.invariant c.in_default.ensures) c.new-w.ensures.output c.new-w.ensures.place (search rules)
