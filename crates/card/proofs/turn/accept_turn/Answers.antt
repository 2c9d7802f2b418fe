-- The text fits, so that the output is the text and what stood behind it; sums, count and area are those of the turn.
use borrow.Author.Rules.{rules}
use Rattle.std.proofs.Common.{arith}
use Rattle.card.specs.Turn.{turned_done}
use Rattle.card.specs.Minus.{difference_is}
use Rattle.card.proofs.turn.accept_turn.Goals as goal

pub returns : goal.returns
returns c =
    let s = rw c.held-engine.ensures at c.turn_sums-sums.ensures in
    turned_done c.args.day c.turn_sums-sums.result c.requires.fits (rw c.held-engine.ensures at c.put_turn_text-count.ensures) c.new-w.ensures.output c.new-w.ensures.place (search rules) s (difference_is _ _ (omega (arith, s.refunded_small)) (omega (arith, s.collected_small))) c.turn_area.ensures
