-- By where a length begins with two zeros: those behind the first of them go.
use Rattle.std.proofs.Common.{arith}
use borrow.Author.Rules.{rules}
use Rattle.commands.specs.Window.{idle_within, zeros_within}
use Rattle.commands.proofs.window.shorten.Goals as goal

pub move_bytes-requires : goal.move_bytes-requires
move_bytes-requires c =
    let k = zeros_within _ _ c.requires.within c.in-Some.ensures c.zeros_at-z.ensures in
    let h = idle_within _ _ c.requires.within c.in-Some.ensures in
    record { here_in_bounds = omega (arith, c.requires.within); there_in_bounds = omega (arith, c.requires.within) }

pub overflow_add-result : goal.overflow_add-result
overflow_add-result c =
    let k = zeros_within _ _ c.requires.within c.in-Some.ensures c.zeros_at-z.ensures in
    let h = idle_within _ _ c.requires.within c.in-Some.ensures in
    search rules
