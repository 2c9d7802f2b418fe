-- `verdict::judge` meets its contract: shape, control, register and bounds are asked in the order of the definition.
use Rattle.verdict.specs.Judging.{judging, shaped_iban}
use Rattle.std.proofs.Common.{sym, ◌∙◌, arith, length-take}
use borrow.Author.Rules.{rules}
use Rattle.verdict.proofs.judge.Goals as goal

pub slice_bounds-iban-end : goal.slice_bounds-iban-end
slice_bounds-iban-end c = let l = shaped_iban _ (sym c.is_shaped.ensures ∙ c.if-not-is_shaped.false) in omega (arith, length-take 22 c.args.part.now)

pub find_account-requires : goal.find_account-requires
find_account-requires c = let l = shaped_iban _ (sym c.is_shaped.ensures ∙ c.if-not-is_shaped.false) in omega (arith, length-take 22 c.args.part.now)

pub is_in_bounds-requires-clause-listed : goal.is_in_bounds-requires-clause-listed
is_in_bounds-requires-clause-listed c = search (judging, rules)

pub returns-then-is_in_bounds : goal.returns-then-is_in_bounds
returns-then-is_in_bounds c = search (judging, rules)

pub returns-else-is_in_bounds : goal.returns-else-is_in_bounds
returns-else-is_in_bounds c = search (judging, rules)
