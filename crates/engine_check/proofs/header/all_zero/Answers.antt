-- `engine_check::header::all_zero` meets its contract: eight by eight, then what is left of the bytes.
use borrow.Author.Rules.{rules}
use Rattle.engine_check.specs.Zeros.{zeros_told, eights_start, eight_more, eight_failed, eights_rest}
use Rattle.engine_check.proofs.header.all_zero.Goals as goal

pub loop-eight-init : goal.loop-eight-init
loop-eight-init c = eights_start _

pub returns-then-not-eight_zero : goal.returns-then-not-eight_zero
returns-then-not-eight_zero c =
    eight_failed _ _ c.loop-eight.invariant _ c.as_chunks.ensures.front c.as_chunks.ensures.front_len c.loop-eight-test.true _ _ c.eight_zero.ensures c.if-not-eight_zero.true

pub loop-eight-preserved : goal.loop-eight-preserved
loop-eight-preserved c =
    eight_more _ _ c.loop-eight.invariant _ c.as_chunks.ensures.front c.as_chunks.ensures.front_len c.loop-eight-test.true _ _ c.eight_zero.ensures c.if-not-eight_zero.false

pub returns : goal.returns
returns c =
    eights_rest _ _ c.loop-eight.invariant _ c.as_chunks.ensures.front_len c.loop-eight.auto.eight-index-end c.loop-eight-test.false _ c.as_chunks.ensures.back _ (zeros_told _ _ (search rules))
