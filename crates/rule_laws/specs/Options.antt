-- What an option that is there tells of how it was made.
use Rattle.std.specs.Prelude.{◌≡◌, refl, Bool, true, false, List, [], ◌∷◌, ◌++◌}
use Rattle.std.proofs.Common.{ap}
use Rattle.std.proofs.Math.Option.{Option, none, some, map}
use Rattle.rules.specs.Text.{then, given, is_some, read_each, led, read_leading}
use Rattle.laws.specs.Tests.{never, none_some}

pub is_some_is : {A : Type 0} (x : Option A) (a : A) → x ≡ some a → is_some x ≡ true
is_some_is x a h = rw h

-- there is one
pub record There {A : Type 0} (x : Option A) : Type 0 where
  pub value : A
  pub is : x ≡ some value

pub there : {A : Type 0} (x : Option A) → is_some x ≡ true → There x
there none h = never h
there (some a) h = record { value = a; is = refl }

pub some_is : {A : Type 0} {a b : A} → some a ≡ some b → a ≡ b
some_is h = cc

-- what came of x by f came of a value that is there
pub record Came {A B : Type 0} (x : Option A) (f : A → Option B) (b : B) : Type 0 where
  pub value : A
  pub is : x ≡ some value
  pub gives : f value ≡ some b

pub came : {A B : Type 0} {b : B} (x : Option A) (f : A → Option B) → then x f ≡ some b → Came x f b
came none f h = none_some h
came (some a) f h = record { value = a; is = refl; gives = h }

-- so did what was made of it
pub record Mapped {A B : Type 0} (f : A → B) (x : Option A) (b : B) : Type 0 where
  pub value : A
  pub is : x ≡ some value
  pub gives : f value ≡ b

pub mapped : {A B : Type 0} {b : B} (f : A → B) (x : Option A) → map f x ≡ some b → Mapped f x b
mapped f none h = none_some h
mapped f (some a) h = record { value = a; is = refl; gives = some_is h }

-- a value that is given passed its test
pub record Gave {A : Type 0} (t : Bool) (a b : A) : Type 0 where
  pub test : t ≡ true
  pub is : a ≡ b

pub gave : {A : Type 0} {b : A} (t : Bool) (a : A) → given t a ≡ some b → Gave t a b
gave true a h = record { test = refl; is = cc }
gave false a h = none_some h

-- each of a list is read
pub data Reads {A B : Type 0} (f : A → Option B) : List A → List B → Type 0 where
  empty : Reads f [] []
  more : {x : A} {y : B} {xs : List A} {ys : List B} → f x ≡ some y → Reads f xs ys → Reads f (x ∷ xs) (y ∷ ys)

pub reads : {A B : Type 0} (f : A → Option B) (xs : List A) (ys : List B) → read_each f xs ≡ some ys → Reads f xs ys
unfolding read_each
reads f [] ys h = rw (← some_is h) empty
reads f (x ∷ xs) ys h =
    let a : Came (f x) _ ys = came _ _ h in
    let m : Mapped _ (read_each f xs) ys = mapped _ _ a.gives in
    rw (← m.gives) (more a.is (reads f xs m.value m.is))

pub each_read : {A B : Type 0} (f : A → Option B) {xs : List A} {ys : List B} → Reads f xs ys → read_each f xs ≡ some ys
unfolding read_each
each_read f empty = refl
each_read f (more e r) = rw (e, each_read f r)

-- ---- a list read as far as each is

-- the first of xs are read as ys, and the others stand behind them
pub record Leads {A B : Type 0} (f : A → Option B) (xs : List A) (ys : List B) (others : List A) : Type 0 where
  pub first : List A
  pub whole : xs ≡ first ++ others
  pub read : Reads f first ys

pub leads : {A B : Type 0} (f : A → Option B) (xs : List A) → Leads f xs (read_leading f xs).read (read_leading f xs).others
unfolding read_leading
leads f [] = record { first = []; whole = refl; read = empty }
leads f (x ∷ xs) = go (f x) refl (leads f xs)
  where
    go : (o : Option _) → f x ≡ o → Leads f xs (read_leading f xs).read (read_leading f xs).others → Leads f (x ∷ xs) (led o (x ∷ xs) (read_leading f xs)).read (led o (x ∷ xs) (read_leading f xs)).others
    go none e l = record { first = []; whole = refl; read = empty }
    go (some y) e l = record { first = x ∷ l.first; whole = ap (λ (r : List _). x ∷ r) l.whole; read = more e l.read }

-- none of a list is read
pub data Unread {A B : Type 0} (f : A → Option B) : List A → Type 0 where
  end : Unread f []
  stops : {x : A} {xs : List A} → f x ≡ none → Unread f (x ∷ xs)

-- those that are read before others of which the first is not
pub leading_read : {A B : Type 0} (f : A → Option B) {xs : List A} {ys : List B} {others : List A} → Reads f xs ys → Unread f others → read_leading f (xs ++ others) ≡ record { read = ys; others = others }
unfolding read_leading
leading_read f empty end = refl
leading_read f empty (stops e) = rw e
leading_read f (more e r) u = rw (e, leading_read f r u)
