use Rattle.register.specs.Sets.{seeking}
use Rattle.rule_laws.specs.Registers.{register_length}
use borrow.Author.Rules.{rules}
use Rattle.register.proofs.search.Register.account_count.Goals as goal

pub overflow_cast-end : goal.overflow_cast-end
overflow_cast-end c = let k = register_length _ c.args.self.passes in search rules

pub returns-else-self-end-eq44 : goal.returns-else-self-end-eq44
returns-else-self-end-eq44 c = search (seeking, rules)
