-- The numbers as they stand.
use Rattle.engine.specs.Header.{header_bytes}
use Rattle.engine.proofs.header.header_at.Goals as goal

pub returns : goal.returns
returns c = header_bytes _ c.requires c.big_endian-day.ensures.value c.big_endian-count.ensures.value
