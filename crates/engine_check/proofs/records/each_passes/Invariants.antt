-- The records from the k-th on answer for all.
use Rattle.engine_check.specs.Walks.{Left}
use Rattle.engine_check.proofs.records.each_passes.Given as goal

abbrev pub invariant-loop-k : goal.invariant-loop-k
invariant-loop-k g l = Left (goal.F-post g l.passes) l.n l.first l.k
