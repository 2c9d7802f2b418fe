-- `text::against::begins_as` meets its contract: each byte is tested by the sign of its place.
use Rattle.std.proofs.Common.{rules, ◌∙◌, arith, ℕ}
use Rattle.std.proofs.lemmas.Iterator.{YieldsList-from_slice, YieldsList-from_zip}
use Rattle.std.proofs.lemmas.Iterator.Search.{all_from_yields_List}
use Rattle.rules.specs.Text.{fits_sign}
use Rattle.laws.specs.Slices.{pairs_fit}
use Rattle.text.specs.Patterns.{fits_fewer}
use Rattle.text.proofs.against.begins_as.Goals as goal

pub returns-then-pattern-s : goal.returns-then-pattern-s
returns-then-pattern-s c =
    all_from_yields_List (λ (q : ℕ × ℕ). fits_sign q.0 q.1) c.all.new.self _ _ c.all.ensures.ran (YieldsList-from_zip (YieldsList-from_slice c.args.pattern.now cc) (YieldsList-from_slice c.args.s.now cc)) (λ x b q k. search rules)
    ∙ pairs_fit c.args.pattern.now c.args.s.now (omega arith)

pub returns-else-pattern-s : goal.returns-else-pattern-s
returns-else-pattern-s c = fits_fewer c.args.pattern.now c.args.s.now (omega arith)
