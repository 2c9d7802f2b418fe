use borrow.Author.Rules.{rules}
use Rattle.put.specs.Writes.{wrote_at}
use Rattle.std.proofs.Common.{refl}
use Rattle.std.proofs.lemmas.Result.{err_from_is_err_and}
use Rattle.card.specs.Accepted.{number_above}
use Rattle.card.specs.Moves.{move_stopped, move_done}
use Rattle.card.proofs.moves.move_text.Goals as goal

pub returns-in_err-stop : goal.returns-in_err-stop
returns-in_err-stop g c =
    let p = err_from_is_err_and c.from_residual.result c.from_residual.ensures.1 in
    rw (p.1, p.2) (move_stopped g.M.RegisterMove.stops g.M.RegisterMove.made _ _ _ (c.in_err-stop.ensures {u = tt}) (number_above _))

pub returns : goal.returns
returns g c =
    rw c.moved.ensures (move_done g.M.RegisterMove.stops g.M.RegisterMove.made _ _ _ (c.in_ok-stop.ensures {u = tt}) g.met.M.RegisterMove.way refl (wrote_at c.put.ensures c.new-w.ensures.output c.new-w.ensures.place (search rules)))
