-- A text with fewer bytes than a pattern has.
use Rattle.std.specs.Prelude.{◌≡◌, List, ℕ, ◌<◌, leb, length, take}
use Rattle.std.proofs.Common.{◌∙◌, take_all, arith}
use borrow.Author.Tests.{lt-leb}
use Rattle.rules.specs.Text.{fits}
use Rattle.laws.specs.Tests.{not_holds}
use Rattle.laws.specs.Reading.{fits_length}

pub fits_fewer : (p s : List ℕ) → length s < length p → leb (length p) (length s) ≡ fits p (take (length p) s)
fits_fewer p s h =
    let e : take (length p) s ≡ s = take_all (length p) s (omega arith) in
    lt-leb (length p) (length s) h ∙ not_holds _ (λ w. let l : length p ≡ length s = fits_length p s (rw e at w) in omega arith)
