-- `Register::find_code` meets its contract. The loop's invariant: the code stands beside the same IBAN among the lines that are left as among all.
use Rattle.register.specs.Searching.{Seeking}
use Rattle.register.proofs.search.Register.find_code.Given as goal

abbrev pub invariant-loop-j : goal.invariant-loop-j
invariant-loop-j l = Seeking l.self.text.now l.code l.codes.at l.codes.lines l.j
