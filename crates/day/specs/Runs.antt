-- A replay_from of commands by its first one.
use Rattle.std.specs.Prelude.{◌≡◌}
use Rattle.std.proofs.Math.Path.{refl, sym, ap}
use Rattle.std.proofs.Common.{◌∙◌}
use mathlib.Core.List.{List, [], ◌++◌}
use Rattle.std.proofs.Math.Option.{Option, none, some}
use Prim.Native.Nat.{ℕ, zero, suc, ◌-◌, ◌<◌, ◌≤◌}
use Rattle.std.proofs.Math.ListN.{length}
use native.Mathlib.Omega.{arith}
use Rattle.rules.specs.Engine.{Engine}
use Rattle.commands.specs.Pieces.{command_behind}
use Rattle.rules.specs.Replay.{Commanded, command, called, printed, replay_from, onward}

module _ (cs : List ℕ) (k room : ℕ) (engine : Option Engine) where
  -- where there is none
  pub run_ends : command cs ≡ none → replay_from k room engine cs ≡ []
  unfolding replay_from onward
  run_ends e = go k
    where
      go : (k : ℕ) → replay_from k room engine cs ≡ []
      go zero = refl
      go (suc k) = rw e refl

  -- where there is one
  pub run_goes : 0 < k → (c : Commanded) → command cs ≡ some c → replay_from k room engine cs ≡ printed (called room engine c.command) ++ replay_from (k - 1) room (called room engine c.command).next c.others
  unfolding replay_from onward
  run_goes h c e = go k h
    where
      go : (k : ℕ) → 0 < k → replay_from k room engine cs ≡ printed (called room engine c.command) ++ replay_from (k - 1) room (called room engine c.command).next c.others
      go zero l = absurd (omega arith)
      go (suc k) l = let z : suc k - 1 ≡ k = omega arith in rw (z, e) refl

  -- bytes that begin with the same command
  pub run_alike : (ds : List ℕ) → command cs ≡ command ds → replay_from k room engine cs ≡ replay_from k room engine ds
  unfolding replay_from
  run_alike ds e = go k
    where
      go : (k : ℕ) → replay_from k room engine cs ≡ replay_from k room engine ds
      go zero = refl
      go (suc k) = rw e refl

-- and no more commands than bytes
enough_step : (j k room : ℕ) (engine : Option Engine) (cs : List ℕ) → length cs ≤ j → length cs ≤ k → ((next : Option Engine) (others : List ℕ) → length others < length cs → replay_from (j - 1) room next others ≡ replay_from (k - 1) room next others)
    → replay_from j room engine cs ≡ replay_from k room engine cs
enough_step j k room engine cs h l f = go (command cs) refl
  where
    go : (o : Option Commanded) → command cs ≡ o → replay_from j room engine cs ≡ replay_from k room engine cs
    go none e = run_ends cs j room engine e ∙ sym (run_ends cs k room engine e)
    go (some c) e =
        let b : length c.others < length cs = command_behind cs c e in
        run_goes cs j room engine (omega arith) c e
        ∙ ap (λ (x : List ℕ). printed (called room engine c.command) ++ x) (f (called room engine c.command).next c.others b)
        ∙ sym (run_goes cs k room engine (omega arith) c e)

pub run_enough : (j k room : ℕ) (engine : Option Engine) (cs : List ℕ) → length cs ≤ j → length cs ≤ k → replay_from j room engine cs ≡ replay_from k room engine cs
run_enough zero k room engine cs h l = enough_step 0 k room engine cs h l (λ next others (m : length others < length cs). absurd (omega arith))
run_enough (suc j) k room engine cs h l =
    enough_step (suc j) k room engine cs h l (λ next others (m : length others < length cs). let z : suc j - 1 ≡ j = omega arith in rw z (run_enough j (k - 1) room next others (omega arith) (omega arith)))
