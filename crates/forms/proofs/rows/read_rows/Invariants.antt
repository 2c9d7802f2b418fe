-- The rows matched so far stand before what the rows that are left make of the text behind the reader's place.
use Rattle.std.proofs.Common.{◌≡◌}
use Rattle.forms.specs.Rows.{Rowing}
use Rattle.forms.proofs.rows.read_rows.Given as goal

abbrev pub invariant-loop-i : goal.invariant-loop-i
invariant-loop-i g l = record { rowing : Rowing l.fn.reader.text.now l.fn.reader.at l.first g.row.N l.spans l.reader.at l.i; text : l.reader.text ≡ l.fn.reader.text }
