-- A BIC, and a reference's text behind it.
use borrow.Author.Rules.{rules}
use Rattle.std.proofs.Common.{refl, arith, ◌+◌}
use Rattle.laws.specs.Slices.{part_cut}
use Rattle.engine.specs.References.{text_stands}
use Rattle.engine_laws.specs.Ways.{calling}
use Rattle.engine_laws.specs.Tests.{reference_test}
use Rattle.engine_check.proofs.accepted.reference_fits.Goals as goal

pub returns-then-not-is_bic : goal.returns-then-not-is_bic
unfolding reference_test
returns-then-not-is_bic c = let b = rw (part_cut c.args.area.now c.args.p (c.args.p + 8) (omega arith)) at c.is_bic.ensures in search (calling, rules)

pub returns : goal.returns
unfolding reference_test
returns c =
    let b = rw (part_cut c.args.area.now c.args.p (c.args.p + 8) (omega arith)) at c.is_bic.ensures in
    let t = rw (text_stands c.args.area.now c.args.p refl) at c.text_fits.ensures in
    search (calling, rules)
