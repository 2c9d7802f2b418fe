-- `written::verdicts::put_linked` meets its contract: part 1 writes nothing, every other part its field 21.
use native.Mathlib.Omega.{arith}
use borrow.Author.Rules.{rules}
use Rattle.written.specs.Texts.{linked_first, linked_later}
use Rattle.written.proofs.verdicts.put_linked.Goals as goal

pub returns-then-part-lt2 : goal.returns-then-part-lt2
returns-then-part-lt2 c = linked_first _ _ _ (omega arith) (search rules)

pub returns : goal.returns
returns c = linked_later _ _ _ (search rules) (omega arith) c.put_field.ensures
