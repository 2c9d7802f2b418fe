-- The records from the i-th on answer for all of them.
use Rattle.engine.specs.References.{Among, of_bank}
use Rattle.engine.proofs.reference.BankReference.is_among.Given as goal

abbrev pub invariant-loop-i : goal.invariant-loop-i
invariant-loop-i l = Among l.area l.n (of_bank l.self.bank l.self.text.now) l.i
