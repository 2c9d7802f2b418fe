use Rattle.register_lines.specs.Sets.{marking}
use borrow.Author.Rules.{rules}
use Rattle.register_lines.proofs.section.mark_of.Goals as goal

pub loop-c-preserved : goal.loop-c-preserved
loop-c-preserved c = search (marking, rules)
