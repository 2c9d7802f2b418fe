-- What the derived comparisons of keys answer: `<` that one stands before another "by BIC in byte order and then date", `==` that both are of one sender and date.
use Rattle.std.specs.Prelude.{◌≡◌, refl, Bool, not}
use Rattle.std.specs.Ordering.{partial_lt, partial_ge}
use Rattle.std.proofs.Common.{◌∙◌, arith}
use Rattle.std.proofs.lemmas.Bool.Decides.{nat_tests}
use Rattle.rules.specs.Engine.{key_before, same_key}
use Rattle.position.specs.Values.{key_value}
use Rattle.position.specs.declared.Key.{Key}
use Rattle.position.specs.contracts.KeyPartialOrd.TheImpl as order
use Rattle.position.specs.contracts.KeyPartialEq.TheImpl as equality

module _ (k l : Key) where
  pub before_is : partial_lt (order.ghosts).partial_cmp k l ≡ key_before (key_value k) (key_value l)
  unfolding key_before
  before_is = grind (arith, nat_tests)

  pub behind_is : partial_ge (order.ghosts).partial_cmp k l ≡ not (key_before (key_value k) (key_value l))
  unfolding key_before
  behind_is = grind (arith, nat_tests)

  pub same_is : (equality.ghosts).eq k l ≡ same_key (key_value k) (key_value l)
  unfolding same_key
  same_is = refl

  -- of an answer
  module _ (t : Bool) where
    pub before_told : t ≡ partial_lt (order.ghosts).partial_cmp k l → t ≡ key_before (key_value k) (key_value l)
    before_told e = e ∙ before_is

    pub behind_told : t ≡ partial_ge (order.ghosts).partial_cmp k l → t ≡ not (key_before (key_value k) (key_value l))
    behind_told e = e ∙ behind_is

    pub same_told : t ≡ (equality.ghosts).eq k l → t ≡ same_key (key_value k) (key_value l)
    same_told e = e ∙ same_is

pub ruleset comparing = (before_told, behind_told, same_told)
