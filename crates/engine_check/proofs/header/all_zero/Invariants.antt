-- `engine_check::header::all_zero` meets its contract. The loop's invariant: what is behind the eights that were gone through decides.
use Rattle.std.specs.Prelude.{◌≡◌, ◌*◌, drop}
use Rattle.rules.specs.Text.{every}
use Rattle.engine_laws.specs.Tests.{is_zero}
use Rattle.engine_check.proofs.header.all_zero.Given as goal

abbrev pub invariant-loop-eight : goal.invariant-loop-eight
invariant-loop-eight l = every is_zero (drop (8 * l.eight-index) l.s) ≡ every is_zero l.s
