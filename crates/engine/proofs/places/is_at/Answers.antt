-- The key there is compared with the other.
use Rattle.std.proofs.Common.{◌∙◌, arith}
use Rattle.std.proofs.lemmas.Bool.{le-ltb}
use borrow.Author.Rules.{rules}
use Rattle.engine.specs.Records.{placing, first_none}
use Rattle.position.proofs.Keys.{comparing}
use Rattle.engine.proofs.places.is_at.Goals as goal

pub returns-then-i-n : goal.returns-then-i-n
returns-then-i-n c = search (placing, comparing, rules)

pub returns-else-i-n : goal.returns-else-i-n
returns-else-i-n c = le-ltb _ _ (omega arith) ∙ first_none _ _ _ c.requires _ (omega arith)
