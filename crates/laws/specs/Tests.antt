-- From facts to Bool tests and back, as branches hand them out and contracts ask for them.
use Rattle.std.specs.Prelude.{◌≡◌, refl, Bool, true, false, ◌&&◌, ◌||◌, not, cond, ℕ, ◌≤◌, ◌<◌, leb, eqb}
use Rattle.std.proofs.Common.{sym, ◌∙◌, le-leb, leb-true, eq-eqb, ne_eqb}
use Rattle.std.proofs.lemmas.Bool.{false≢true, lt-leb, not-false}
use Rattle.std.proofs.Math.Option.{Option, none, some, none-ne-some}
use Rattle.rules.specs.Text.{between}

-- what follows from a test that both holds and fails, and from an answer that is both there and not
pub never : {A : Type 0} → false ≡ true → A
never h = absurd (false≢true h)

pub none_some : {A B : Type 0} {a : A} → none ≡ some a → B
none_some {a = a} h = absurd (none-ne-some a h)

-- ---- both of two tests

pub and_left : (a b : Bool) → (a && b) ≡ true → a ≡ true
and_left true b h = refl
and_left false b h = h

pub and_right : (a b : Bool) → (a && b) ≡ true → b ≡ true
and_right true b h = h
and_right false b h = never h

-- as `every` and its like join tests
pub cond_left : (a b : Bool) → cond a b false ≡ true → a ≡ true
cond_left true b h = refl
cond_left false b h = h

pub cond_right : (a b : Bool) → cond a b false ≡ true → b ≡ true
cond_right true b h = h
cond_right false b h = never h

-- ---- both, either, neither

pub cond_both : (a b : Bool) → a ≡ true → b ≡ true → cond a b false ≡ true
cond_both a b h k = rw (h, k)

pub and_both : (a b : Bool) → a ≡ true → b ≡ true → (a && b) ≡ true
and_both a b h k = rw (h, k)

pub or_left : (a b : Bool) → (a || b) ≡ false → a ≡ false
or_left true b h = h
or_left false b h = refl

pub or_right : (a b : Bool) → (a || b) ≡ false → b ≡ false
or_right true b h = never (sym h)
or_right false b h = h

-- as `any` and its like join tests
pub any_left : (a b : Bool) → cond a true b ≡ false → a ≡ false
any_left true b h = h
any_left false b h = refl

pub any_right : (a b : Bool) → cond a true b ≡ false → b ≡ false
any_right true b h = never (sym h)
any_right false b h = h

pub any_neither : (a b : Bool) → a ≡ false → b ≡ false → cond a true b ≡ false
any_neither a b h k = rw (h, k)

-- two tests that hold together
pub either : (s t : Bool) → (s ≡ true → t ≡ true) → (t ≡ true → s ≡ true) → s ≡ t
either true t f g = sym (f refl)
either false true f g = g refl
either false false f g = refl

-- ---- what a call answered

-- an answer that is there where a test holds
module _ {A : Type 0} (t : Bool) (x : A) (o : Option A) (e : cond t (some x) none ≡ o) where
  pub answer_is : t ≡ true → o ≡ some x
  answer_is h = sym (rw h at e)

  pub answer_not : t ≡ false → o ≡ none
  answer_not h = sym (rw h at e)

-- a test that cannot hold
pub not_holds : (a : Bool) → (a ≡ true → ⊥) → false ≡ a
not_holds true h = absurd (h refl)
not_holds false h = refl

-- a test holds where a call answered so
pub holds_told : (t a : Bool) → t ≡ a → t ≡ true → a ≡ true
holds_told t a u h = sym u ∙ h

pub passed_told : (t a : Bool) → t ≡ a → not t ≡ false → a ≡ true
passed_told t a u h = sym u ∙ not-false t h

-- the answer of `a && b` in code, t being what the first test answered: the second answer where it holds, else t itself
pub and_holds : (a b t r : Bool) → t ≡ a → t ≡ true → r ≡ b → r ≡ (a && b)
and_holds a b t r u h e = rw (← u, h) e

pub and_failed : (a b t : Bool) → t ≡ a → t ≡ false → t ≡ (a && b)
and_failed a b t u h = rw (← u, h)

pub and_off : (a b t : Bool) → t ≡ a → t ≡ false → false ≡ (a && b)
and_off a b t u h = rw (← u, h)

-- the answer of `a || b` in code
pub or_holds : (a b t : Bool) → t ≡ a → t ≡ true → t ≡ (a || b)
or_holds a b t u h = rw (← u, h)

pub or_failed : (a b t r : Bool) → t ≡ a → t ≡ false → r ≡ b → r ≡ (a || b)
or_failed a b t r u h e = rw (← u, h) e

-- ---- the answer picked by a comparison

pub pick_equal : {A : Type 0} (a b : ℕ) (x y r : A) → a ≡ b → r ≡ x → r ≡ cond (eqb a b) x y
pick_equal a b x y r h e = rw (eq-eqb a b h) e

pub pick_other : {A : Type 0} (a b : ℕ) (x y r : A) → (a ≡ b → ⊥) → r ≡ y → r ≡ cond (eqb a b) x y
pick_other a b x y r h e = rw (ne_eqb a b h) e

-- ---- low to high

pub between_in : (low high c : ℕ) → low ≤ c → leb c high ≡ between low high c
between_in low high c h = rw (le-leb low c h)

pub between_out : (low high c : ℕ) → c < low → leb low c ≡ between low high c
between_out low high c h = rw (lt-leb low c h)

pub between_low : (low high c : ℕ) → between low high c ≡ true → low ≤ c
between_low low high c h = leb-true low c (and_left _ _ h)

pub between_high : (low high c : ℕ) → between low high c ≡ true → c ≤ high
between_high low high c h = leb-true c high (and_right (leb low c) _ h)

pub ruleset tests = (holds_told, and_holds, and_failed, or_holds, or_failed, pick_equal, pick_other, between_in, between_out)
