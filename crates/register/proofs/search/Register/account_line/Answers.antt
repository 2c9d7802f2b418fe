-- `Register::account_line` meets its contract: the line lies within a text that passed.
use Rattle.register.specs.Passed.{line_few, line_room}
use Rattle.laws.specs.Slices.{part_cut}
use borrow.Author.Rules.{rules}
use Rattle.register.proofs.search.Register.account_line.Goals as goal

pub overflow_cast-place : goal.overflow_cast-place
overflow_cast-place c = let k = line_few _ c.args.self.passes _ c.requires in search rules

pub overflow_mul-place : goal.overflow_mul-place
overflow_mul-place c = let k = line_few _ c.args.self.passes _ c.requires in search rules

pub overflow_add-place : goal.overflow_add-place
overflow_add-place c = let k = line_few _ c.args.self.passes _ c.requires in search rules

pub overflow_cast-place-2 : goal.overflow_cast-place-2
overflow_cast-place-2 c = let k = line_few _ c.args.self.passes _ c.requires in search rules

pub overflow_add-result : goal.overflow_add-result
overflow_add-result c = let k = line_few _ c.args.self.passes _ c.requires in search rules

pub slice_bounds-result-end : goal.slice_bounds-result-end
slice_bounds-result-end c = line_room _ c.args.self.passes _ c.requires

pub returns-clause-line : goal.returns-clause-line
returns-clause-line c = search (part_cut, rules)
