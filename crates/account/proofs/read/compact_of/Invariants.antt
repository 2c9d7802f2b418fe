-- `account::read::compact_of` meets its contract. The loop's invariant: the first k characters are those of the compact form.
use Rattle.account.specs.Read.{Joining}
use Rattle.account.proofs.read.compact_of.Given as goal

abbrev pub invariant-loop-k : goal.invariant-loop-k
invariant-loop-k l = Joining l.part l.k l.iban
