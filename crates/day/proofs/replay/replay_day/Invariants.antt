-- What is left to carry out and to print is the replay of the rest.
use Rattle.std.proofs.Common.{length}
use Rattle.rules.specs.Area.{holds}
use Rattle.rules.specs.Replay.{replay_from}
use Rattle.day.specs.Replaying.{Replaying}
use Rattle.day.proofs.replay.replay_day.Given as goal

abbrev pub invariant-loop-command : goal.invariant-loop-command
invariant-loop-command l = Replaying l.rest l.w (length l.initial.out) (length l.initial.area) l.area l.out (replay_from (length l.fn.input) (length l.initial.out) (holds l.initial.area) l.fn.input) l.initial.w

abbrev pub decreases-loop-command : goal.decreases-loop-command
decreases-loop-command l = length l.rest
