-- The loop's invariant: some details are told, judged and kept, the sum is that of their amounts, and with those that are left they are all; the reader is behind them, over the same text.
use Rattle.std.specs.Prelude.{◌≡◌}
use Rattle.conditions.specs.Tally.{Walking}
use Rattle.conditions.proofs.tally.tally_details.Given as goal

abbrev pub invariant-loop-n : goal.invariant-loop-n
invariant-loop-n l = record { count : l.t.count ≡ l.n; text : l.reader.text ≡ l.fn.reader.text; walking : Walking l.fn.reader.text.now l.register.text.now l.fn.reader.at l.reader.at l.t l.kept }
