-- The message of some bytes, and its details by their places.
use Rattle.std.specs.Prelude.{List, [], ℕ, get_or}
use Rattle.std.proofs.Math.Option.{Option, none, some}
use Rattle.rules.specs.Messages.{Message, mt101, Detail, read, details_of}

-- what was read; an order of nothing where it is none
unfoldable pub or_none : Option Message → Message
or_none none = mt101 record { sender = []; rows = []; details = [] }
or_none (some m) = m

-- the message of some bytes
unfoldable pub message_in : List ℕ → Message
message_in s = or_none (read s)

-- its details
abbrev pub details_in : List ℕ → List Detail
details_in s = details_of (message_in s)

-- behind the last detail
abbrev pub no_detail : Detail
no_detail = record { rows = []; date = 0; amount = 0 }

-- detail i
abbrev pub detail_at : List Detail → ℕ → Detail
detail_at ds i = get_or ds i no_detail
