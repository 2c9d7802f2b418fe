-- Both texts passed: zeros stand from where the last one ends.
use Rattle.std.proofs.Common.{◌≡◌}
use borrow.Author.Rules.{rules}
use Rattle.engine_laws.specs.Tests.{is_register, is_list, register_test, list_test}
use Rattle.engine_check.specs.Read.{read}
use Rattle.engine_check.specs.Zeros.{zeros_part}
use Rattle.engine_check.proofs.sections.texts_hold.Goals as goal

pub slice_bounds-all_zero-count : goal.slice_bounds-all_zero-count
unfolding is_register is_list
slice_bounds-all_zero-count c =
    let u : c.text_holds.result ≡ register_test c.args.area.now 0 = c.text_holds.ensures is_register (λ t q e. search rules) in
    let v : c.text_holds-2.result ≡ list_test c.args.area.now 1 = c.text_holds-2.ensures is_list (λ t q e. search rules) in
    search (read, rules)

pub slice_bounds-all_zero-start : goal.slice_bounds-all_zero-start
slice_bounds-all_zero-start c = let w = slice_bounds-all_zero-count c in search rules

pub returns : goal.returns
unfolding is_register is_list
returns c =
    let u : c.text_holds.result ≡ register_test c.args.area.now 0 = c.text_holds.ensures is_register (λ t q e. search rules) in
    let v : c.text_holds-2.result ≡ list_test c.args.area.now 1 = c.text_holds-2.ensures is_list (λ t q e. search rules) in
    search (read, zeros_part, rules)
