-- From place to place: whether the window has idle zeros is told by what stands at the place and behind it.
use Rattle.commands.specs.Seeking.{SeekingAt, behind}
use Rattle.commands.proofs.window.idle_place.Given as goal

abbrev pub invariant-loop-place : goal.invariant-loop-place
invariant-loop-place l = SeekingAt l.w l.place

abbrev pub decreases-loop-place : goal.decreases-loop-place
decreases-loop-place l = behind l.w l.place
