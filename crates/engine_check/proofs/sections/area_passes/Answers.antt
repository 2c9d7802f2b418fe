-- The tests of the area in their order; a header that passed bounds the numbers of records.
use Rattle.engine_laws.specs.Tests.{area_test}
use Rattle.engine_laws.specs.Ways.{limit_holds, limit_failed, calling}
use Rattle.engine_check.specs.Read.{read}
use borrow.Author.Rules.{rules}
use Rattle.engine_check.proofs.sections.area_passes.Goals as goal

pub returns-then-area-lt-AREA : goal.returns-then-area-lt-AREA
unfolding area_test
returns-then-area-lt-AREA c = search (limit_holds, limit_failed, calling, read, rules)

pub returns-then-not-header_holds : goal.returns-then-not-header_holds
unfolding area_test
returns-then-not-header_holds c = search (limit_holds, limit_failed, calling, read, rules)

pub references_hold-requires : goal.references_hold-requires
references_hold-requires c = search (read, rules)

pub returns-then-not-references_hold : goal.returns-then-not-references_hold
unfolding area_test
returns-then-not-references_hold c = search (limit_holds, limit_failed, calling, read, rules)

pub positions_hold-requires : goal.positions_hold-requires
positions_hold-requires c = search (read, rules)

pub returns-then-not-positions_hold : goal.returns-then-not-positions_hold
unfolding area_test
returns-then-not-positions_hold c = search (limit_holds, limit_failed, calling, read, rules)

pub returns : goal.returns
unfolding area_test
returns c = search (limit_holds, limit_failed, calling, read, rules)
