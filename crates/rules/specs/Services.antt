-- Document 02's calls that change no engine and write no posting line: they may stand among messages and turns and count for nothing. A further one is a case of `Service` with its line in both definitions.
use Rattle.std.specs.Prelude.{List, ℕ}
use Rattle.std.proofs.Math.Option.{Option}
use Rattle.rules.specs.Engine.{Engine}
use Rattle.rules.specs.Calls.{Answer}
use Rattle.rules.specs.Moves.{newer_call, older_call}
use Rattle.rules.specs.Area.{Result, card_newer, card_older}

-- what such a call is handed: the text of a register, to be moved to the newer form or to the older (CR 6)
pub data Service : Type 0 where
  newer : List ℕ → Service
  older : List ℕ → Service

-- what it answers
unfoldable pub service_call : ℕ → Option Engine → Service → Answer
service_call room engine (newer s) = newer_call room engine s
service_call room engine (older s) = older_call room engine s

-- a call that is not lent the engine area: that is as it was
unfoldable pub beside : List ℕ → Result → Result
beside area r = record { number = r.number; written = r.written; difference = r.difference; area = area; output = r.output }

-- what it does to the output lent to it
unfoldable pub service_result : Service → List ℕ → List ℕ → Result
service_result (newer s) area out = beside area (card_newer s out)
service_result (older s) area out = beside area (card_older s out)
