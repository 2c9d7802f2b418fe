-- Keys of positions: their order, "by BIC in byte order and then date", and when two are the same.
use Rattle.std.specs.Prelude.{◌≡◌, refl, Bool, true, false, ◌&&◌, ◌||◌, not, ◌≤◌, ◌<◌, leb, eqb}
use Rattle.std.proofs.Common.{sym, ◌∙◌, arith}
use Rattle.std.proofs.Math.Bool.{and-false}
use borrow.Author.Tests.{leb-true, leb-false, le-leb, lt-leb, eqb-true, eq-eqb, ne_eqb}
use Rattle.rules.specs.Engine.{Key, key_before, same_key}
use Rattle.laws.specs.Tests.{and_left, and_right, never}

-- the order
pub data Before (k l : Key) : Type 0 where
  bank : k.bank < l.bank → Before k l
  date : k.bank ≡ l.bank → k.date < l.date → Before k l

pub before_trans : {k l m : Key} → Before k l → Before l m → Before k m
before_trans (bank h) (bank i) = bank (omega arith)
before_trans (bank h) (date i j) = bank (omega arith)
before_trans (date h j) (bank i) = bank (omega arith)
before_trans (date h j) (date i n) = date (omega arith) (omega arith)

before_not : {k l : Key} → Before k l → Before l k → ⊥
before_not (bank h) (bank i) = omega arith
before_not (bank h) (date i j) = omega arith
before_not (date h j) (bank i) = omega arith
before_not (date h j) (date i n) = omega arith

-- ---- the test of the order

module _ (k l : Key) where
  pub lower_bank : k.bank < l.bank → true ≡ key_before k l
  unfolding key_before
  lower_bank h = rw (lt-leb l.bank k.bank h)

  pub higher_bank : l.bank < k.bank → false ≡ key_before k l
  unfolding key_before
  higher_bank h = rw (le-leb l.bank k.bank (omega arith), ne_eqb k.bank l.bank (λ e. omega arith))

  module _ (h : l.bank ≤ k.bank) (i : k.bank ≤ l.bank) where
    pub lower_date : k.date < l.date → true ≡ key_before k l
    unfolding key_before
    lower_date j = rw (le-leb l.bank k.bank h, eq-eqb k.bank l.bank (omega arith), lt-leb l.date k.date j)

    pub higher_date : l.date ≤ k.date → false ≡ key_before k l
    unfolding key_before
    higher_date j = rw (le-leb l.bank k.bank h, eq-eqb k.bank l.bank (omega arith), le-leb l.date k.date j)

pub test_before : (k l : Key) → key_before k l ≡ true → Before k l
unfolding key_before
test_before k l h = go (leb l.bank k.bank) (eqb k.bank l.bank) (leb l.date k.date) refl refl refl h
  where
    go : (s t u : Bool) → leb l.bank k.bank ≡ s → eqb k.bank l.bank ≡ t → leb l.date k.date ≡ u → (not s || (t && not u)) ≡ true → Before k l
    go false t u a b c i = bank (leb-false l.bank k.bank a)
    go true true false a b c i = date (eqb-true k.bank l.bank b) (leb-false l.date k.date c)
    go true true true a b c i = never i
    go true false u a b c i = never i

pub before_test : {k l : Key} → Before k l → key_before k l ≡ true
before_test {k} {l} (bank h) = sym (lower_bank k l h)
before_test {k} {l} (date h i) = sym (lower_date k l (omega arith) (omega arith) i)

-- ---- the test of equality

pub same_keys : (k l : Key) → same_key k l ≡ true → k ≡ l
unfolding same_key
same_keys k l h =
    let b : k.bank ≡ l.bank = eqb-true _ _ (and_left _ _ h) in
    let d : k.date ≡ l.date = eqb-true _ _ (and_right (eqb k.bank l.bank) _ h) in
    λ i. record { bank = b i; date = d i }

pub same_self : (k : Key) → same_key k k ≡ true
unfolding same_key
same_self k = rw (eq-eqb k.bank k.bank refl, eq-eqb k.date k.date refl)

module _ (k l : Key) where
  pub other_bank : (k.bank ≡ l.bank → ⊥) → false ≡ same_key k l
  unfolding same_key
  other_bank h = rw (ne_eqb k.bank l.bank h)

  pub same_bank : k.bank ≡ l.bank → eqb k.date l.date ≡ same_key k l
  unfolding same_key
  same_bank h = rw (eq-eqb k.bank l.bank h)

  other_date : (k.date ≡ l.date → ⊥) → same_key k l ≡ false
  unfolding same_key
  other_date h = rw (ne_eqb k.date l.date h, and-false)

-- one before the other is another
pub before_other : {k l : Key} → Before k l → same_key k l ≡ false
before_other {k} {l} (bank h) = sym (other_bank k l (λ e. omega arith))
before_other {k} {l} (date h i) = other_date k l (λ e. omega arith)

pub behind_other : {k l : Key} → Before k l → same_key l k ≡ false
behind_other {k} {l} (bank h) = sym (other_bank l k (λ e. omega arith))
behind_other {k} {l} (date h i) = other_date l k (λ e. omega arith)

pub before_first : {k l : Key} → Before k l → key_before l k ≡ false
before_first {k} {l} b = go (key_before l k) refl
  where
    go : (t : Bool) → key_before l k ≡ t → t ≡ false
    go false e = refl
    go true e = absurd (before_not b (test_before l k e))

-- ---- where k belongs against l: it is the same, before it, or behind it

pub data KeyPlace (k l : Key) : Type 0 where
  same : l ≡ k → same_key l k ≡ true → KeyPlace k l
  ahead : Before k l → same_key l k ≡ false → key_before k l ≡ true → KeyPlace k l
  behind : Before l k → same_key l k ≡ false → key_before k l ≡ false → KeyPlace k l

pub place : (k l : Key) → KeyPlace k l
place k l = go (leb l.bank k.bank) (leb k.bank l.bank) (leb l.date k.date) (leb k.date l.date) refl refl refl refl
  where
    first : Before k l → KeyPlace k l
    first b = ahead b (behind_other b) (before_test b)

    last : Before l k → KeyPlace k l
    last b = behind b (before_other b) (before_first b)

    self : l ≡ k → KeyPlace k l
    self e = same e (rw e (same_self k))

    banks : leb l.bank k.bank ≡ true → leb k.bank l.bank ≡ true → l.bank ≡ k.bank
    banks a b = omega (arith, leb-true l.bank k.bank a, leb-true k.bank l.bank b)

    go : (s t u v : Bool) → leb l.bank k.bank ≡ s → leb k.bank l.bank ≡ t → leb l.date k.date ≡ u → leb k.date l.date ≡ v → KeyPlace k l
    go false t u v a b c d = first (bank (leb-false l.bank k.bank a))
    go true false u v a b c d = last (bank (leb-false k.bank l.bank b))
    go true true false v a b c d = first (date (sym (banks a b)) (leb-false l.date k.date c))
    go true true true false a b c d = last (date (banks a b) (leb-false k.date l.date d))
    go true true true true a b c d =
        let e : l.bank ≡ k.bank = banks a b in
        let f : l.date ≡ k.date = omega (arith, leb-true l.date k.date c, leb-true k.date l.date d) in
        self (λ i. record { bank = e i; date = f i })

-- a key that does not stand before another gives way to it
pub gives_way : (k l : Key) → key_before k l ≡ false → same_key k l ≡ false → key_before l k ≡ true
gives_way k l h i = go (place l k)
  where
    go : KeyPlace l k → key_before l k ≡ true
    go (same e s) = never (sym i ∙ s)
    go (ahead b s t) = t
    go (behind b s t) = never (sym h ∙ before_test b)

pub ruleset keys = (lower_bank, higher_bank, lower_date, higher_date, other_bank, same_bank)
