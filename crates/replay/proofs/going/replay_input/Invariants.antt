-- Each turn begins with a window that is ready and ends with one.
use Rattle.replay.specs.Going.{Going}
use Rattle.replay.proofs.going.replay_input.Given as goal

abbrev pub invariant-loop : goal.invariant-loop
invariant-loop g l = Going l.input l.at l.n l.area l.out l.printed l.initial.input l.initial.area l.initial.out l.initial.printed
