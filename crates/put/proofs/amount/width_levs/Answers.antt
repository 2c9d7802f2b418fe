-- The levs have two digits less than the stotinki, and one at least.
use native.Mathlib.Omega.{arith}
use Rattle.laws.specs.Digits.{width_levs, width_most}
use Rattle.put.proofs.amount.width_levs.Goals as goal

pub returns : goal.returns
returns c =
    let e : _ = width_levs c.args.v (omega arith) in
    let m : _ = width_most 19 c.args.v in
    (omega arith, omega arith)
