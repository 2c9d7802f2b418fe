-- Lists of conditions of refusal: the first that holds in lists one behind the other, and what an accepted list tells of each of its conditions, by its number.
use Rattle.std.specs.Prelude.{◌≡◌, Bool, cond, List, [], ◌∷◌, ◌++◌, ℕ}
use Rattle.std.proofs.Math.Path.{refl}
use Rattle.std.proofs.Common.{sym, ◌∙◌}
use Rattle.std.proofs.Math.Bool.{true, false}
use Rattle.std.proofs.Math.Option.{Option}
use Rattle.std.proofs.Math.Dec.{eqb}
use borrow.Author.Tests.{eqb-true, eq-eqb}
use Rattle.rules.specs.Engine.{Engine}
use Rattle.rules.specs.Calls.{Stop, first_of, Answer, refused, answered}
use Rattle.laws.specs.Tests.{never}

-- ---- a list

-- no condition has the number of an acceptance
unfoldable pub numbered : List Stop → Bool
numbered [] = true
numbered (s ∷ ss) = cond (eqb s.number 0) false (numbered ss)

-- the condition of a number
unfoldable pub condition_of : ℕ → List Stop → Bool
condition_of k [] = false
condition_of k (s ∷ ss) = let r = condition_of k ss in cond (eqb s.number k) s.holds r

-- such a list without its first
record NumberedRest (s : Stop) (ss : List Stop) : Type 0 where
  first : eqb s.number 0 ≡ false
  others : numbered ss ≡ true

rest : (s : Stop) (ss : List Stop) → numbered (s ∷ ss) ≡ true → NumberedRest s ss
unfolding numbered
rest s ss h = go (eqb s.number 0) refl h
  where
    go : (t : Bool) → eqb s.number 0 ≡ t → cond t false (numbered ss) ≡ true → NumberedRest s ss
    go true e i = never i
    go false e i = record { first = e; others = i }

-- where none holds the first does not, and none of the others
record FirstPassed (s : Stop) (ss : List Stop) : Type 0 where
  first : s.holds ≡ false
  others : first_of ss ≡ 0

passed : (s : Stop) (ss : List Stop) → eqb s.number 0 ≡ false → first_of (s ∷ ss) ≡ 0 → FirstPassed s ss
unfolding first_of
passed s ss n h = go s.holds refl h
  where
    go : (t : Bool) → s.holds ≡ t → cond t s.number (first_of ss) ≡ 0 → FirstPassed s ss
    go true e i = never (sym n ∙ eq-eqb s.number 0 i)
    go false e i = record { first = e; others = i }

-- none holds: not that of any number
pub none_holds : (k : ℕ) (ss : List Stop) → numbered ss ≡ true → first_of ss ≡ 0 → condition_of k ss ≡ false
unfolding condition_of
none_holds k [] n h = refl
none_holds k (s ∷ ss) n h =
    let r : NumberedRest s ss = rest s ss n in
    let p : FirstPassed s ss = passed s ss r.first h in
    go (eqb s.number k) p.first (none_holds k ss r.others p.others)
  where
    go : (t : Bool) → s.holds ≡ false → condition_of k ss ≡ false → cond t s.holds (condition_of k ss) ≡ false
    go true e i = e
    go false e i = i

-- ---- two lists, one behind the other

-- none of the first list holds
pub first_later : (a b : List Stop) → numbered a ≡ true → first_of a ≡ 0 → first_of (a ++ b) ≡ first_of b
unfolding first_of
first_later [] b n e = refl
first_later (s ∷ a) b n e =
    let r : NumberedRest s a = rest s a n in
    let p : FirstPassed s a = passed s a r.first e in
    rw p.first (first_later a b r.others p.others)

-- one of the first list holds
pub first_earlier : (a b : List Stop) (k : ℕ) → first_of a ≡ k → eqb k 0 ≡ false → first_of (a ++ b) ≡ k
unfolding first_of
first_earlier [] b k e n = never (sym n ∙ eq-eqb k 0 (sym e))
first_earlier (s ∷ a) b k e n = go s.holds e (λ z. first_earlier a b k z n)
  where
    go : (t : Bool) → cond t s.number (first_of a) ≡ k → (first_of a ≡ k → first_of (a ++ b) ≡ k) → cond t s.number (first_of (a ++ b)) ≡ k
    go true z r = z
    go false z r = r z

-- ---- a call

module _ (ss : List Stop) (engine : Option Engine) (a : Answer) where
  pub answered_refused : (k : ℕ) → first_of ss ≡ k → eqb k 0 ≡ false → answered ss engine a ≡ refused k engine
  unfolding answered
  answered_refused k e n = rw (e, n)

  pub answered_accepted : first_of ss ≡ 0 → answered ss engine a ≡ a
  unfolding answered
  answered_accepted e = rw e

  -- an answer of 0 is an acceptance
  pub answered_zero : (answered ss engine a).number ≡ 0 → first_of ss ≡ 0
  unfolding answered
  answered_zero h = go (eqb (first_of ss) 0) refl
    where
      go : (t : Bool) → eqb (first_of ss) 0 ≡ t → first_of ss ≡ 0
      go true e = eqb-true (first_of ss) 0 e
      go false e = rw e at h
