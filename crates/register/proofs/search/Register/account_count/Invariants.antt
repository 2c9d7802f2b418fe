-- `Register::account_count` meets its contract. The loop's invariant: from its place on there are code lines alone.
use Rattle.register.specs.Searching.{Ending}
use Rattle.register.proofs.search.Register.account_count.Given as goal

abbrev pub invariant-loop-end : goal.invariant-loop-end
invariant-loop-end l = Ending l.self.text.now l.end

abbrev pub decreases-loop-end : goal.decreases-loop-end
decreases-loop-end l = l.end
