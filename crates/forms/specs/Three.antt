-- Three numbers that are read one after another, and what is made of them: each form has two dates and an amount.
use Rattle.std.specs.Prelude.{◌≡◌, refl, List, ℕ, ◌^◌, ◌<◌, get_or, take, drop}
use Rattle.std.proofs.Math.Path.{sym}
use Rattle.std.proofs.Common.{ap, ◌∙◌}
use Rattle.std.proofs.Math.Option.{Option, none, some}
use Rattle.rules.specs.Text.{then}
use Rattle.rules.specs.Dates.{date}
use Rattle.rules.specs.Amounts.{amount}
use Rattle.money.specs.Sums.{amount_small}
use Rattle.laws.specs.Told.{told}
use Rattle.std.specs.Prelude as P
use Rattle.std.specs.Prelude.{Some, None}
use Rattle.forms.specs.Spans.{span_of, no_span}
use Rattle.forms.specs.declared.rows.Span.{Span}

-- the amount behind the first n bytes of a row's line, and the date there
abbrev pub sum_in : List ℕ → List Span → ℕ → ℕ → Option ℕ
sum_in s l k n = amount (drop n (span_of s (get_or l k no_span)))

abbrev pub date_in : List ℕ → List Span → ℕ → ℕ → Option ℕ
date_in s l k n = date (take 6 (drop n (span_of s (get_or l k no_span))))

-- an amount that was read is small
pub sum_small : (q : P.Option ℕ) (cs : List ℕ) (n : ℕ) → told q ≡ amount cs → q ≡ Some n → n < 10 ^ 16
sum_small q cs n e h = amount_small cs n (sym e ∙ ap told h)

-- what f makes of three numbers, where each is there
unfoldable pub three : {A : Type 0} → (ℕ → ℕ → ℕ → A) → Option ℕ → Option ℕ → Option ℕ → Option A
three f x y z = then x (λ a. then y (λ b. then z (λ c. some (f a b c))))

-- and what g makes of that
pub three_on : {A B : Type 0} (g : A → B) (f : ℕ → ℕ → ℕ → A) (x y z : Option ℕ) → then (three f x y z) (λ v. some (g v)) ≡ three (λ a b c. g (f a b c)) x y z
unfolding three
three_on g f none y z = refl
three_on g f (some a) none z = refl
three_on g f (some a) (some b) none = refl
three_on g f (some a) (some b) (some c) = refl

module _ {A : Type 0} (o : Option A) (f : ℕ → ℕ → ℕ → A) (x y z : Option ℕ) (same : o ≡ three f x y z) (p : P.Option ℕ) (u : told p ≡ x) where
  pub no_first : p ≡ None → o ≡ none
  unfolding three
  no_first h = same ∙ (rw (← u, h))

  module _ (a : ℕ) (h : p ≡ Some a) (q : P.Option ℕ) (v : told q ≡ y) where
    pub no_second : q ≡ None → o ≡ none
    unfolding three
    no_second k = same ∙ (rw (← u, h, ← v, k))

    module _ (b : ℕ) (k : q ≡ Some b) (r : P.Option ℕ) (w : told r ≡ z) where
      pub no_third : r ≡ None → o ≡ none
      unfolding three
      no_third l = same ∙ (rw (← u, h, ← v, k, ← w, l))

      pub all_three : (c : ℕ) → r ≡ Some c → (t : A) → t ≡ f a b c → o ≡ some t
      unfolding three
      all_three c l t e = rw e (same ∙ (rw (← u, h, ← v, k, ← w, l)))
