-- As many bytes as there are in the buffer are read at most.
use Rattle.std.proofs.Common.{◌≤◌, length}
use Rattle.replay_vectors.proofs.read_file.Given as goal

abbrev pub invariant-loop : goal.invariant-loop
invariant-loop g l = l.n ≤ length l.buf
