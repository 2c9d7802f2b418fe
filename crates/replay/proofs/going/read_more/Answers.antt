-- The part behind the first n bytes was lent and is back; where nothing was read the first n stay as well.
use Rattle.std.proofs.Common.{◌≡◌, length, ℕ, ◌+◌, ◌-◌, List, subst, arith, length-take, length-drop}
use Rattle.std.proofs.lemmas.Result.{MatchResult-from_err}
use borrow.Rule.Slice.PartMut.{put_mid, same_len_mid}
use Rattle.replay.specs.Going.{More, more_read}
use Rattle.replay.proofs.going.read_more.Goals as goal

pub returns-in_err-got : goal.returns-in_err-got
returns-in_err-got g c =
    let s : List ℕ = c.args.input.now in
    let t : List ℕ = put_mid c.args.n (length s - c.args.n) s c.read.new.buf in
    let e : length t ≡ length s = same_len_mid c.args.n _ s c.read.new.buf c.read.auto.buf in
    let z : c.args.n + 0 ≡ c.args.n = omega arith in
    let h : More s c.args.n c.args.n t = subst (λ r. More s c.args.n r t) z (more_read s c.read.new.buf c.args.n 0 (length s - c.args.n) c.requires e (omega arith)) in
    MatchResult-from_err c.from_residual.result _ _ c.from_residual.ensures.0 (λ _. h)

pub returns : goal.returns
returns g c =
    let s : List ℕ = c.args.input.now in
    let e : length (put_mid c.args.n (length s - c.args.n) s c.read.new.buf) ≡ length s = same_len_mid c.args.n _ s c.read.new.buf c.read.auto.buf in
    more_read s c.read.new.buf c.args.n c.in_ok-got.got (length s - c.args.n) c.requires e (omega (arith, c.in_ok-got.ensures.bound, length-take {A = ℕ}, length-drop {A = ℕ}, c.read.auto.buf, e))
