-- What is missing is refused by a condition: `ok_or` and the way out by `?` behind it.
use Rattle.std.specs.Prelude.{◌≡◌, Option, None, Result, Err, ok_or}

module _ {A B E : Type 0} (o : Option A) (stop x : E) (w : Result A E) (r : Result B E) where
  pub missing : w ≡ Err x → w ≡ ok_or o stop → o ≡ None → r ≡ Err x → r ≡ Err stop
  missing a v e p = let q : w ≡ Err stop = rw e at v in cc
