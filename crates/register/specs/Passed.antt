-- What a register's text that passed 9 is, for those who read it.
use Rattle.std.specs.Prelude.{◌≡◌, refl, Bool, true, false, List, map, ℕ, zero, suc, ◌+◌, ◌*◌, ◌≤◌, ◌<◌, length, get_or, take, drop}
use Rattle.std.proofs.Common.{sym, ◌∙◌, arith}
use Rattle.std.proofs.Math.Path.{ap}
use Rattle.std.proofs.Math.Option.{some}
use Rattle.rules.specs.Text.{given, is_some}
use Rattle.rules.specs.Register.{Account, Register, register, register_of, old_register}
use Rattle.rules.specs.Verdict.{no_account, account_at, found}
use Rattle.laws.specs.Parts.{cut, cut_take, cut_drop}
use Rattle.register_lines.specs.AccountLine.{bound}
use Rattle.rule_laws.specs.Registers.{register_size, register_few, codes_few}
use Rattle.register_lines.specs.Places.{places_from, end_next, end_none, bound_at, account_in, upto_all}
use Rattle.register.specs.Whole.{place, count, code_count, accounts_in, codes_in, passes_in, old_in, register_in, found_in}
use Rattle.register.specs.Agree.{in_places, old_in_places, accounts_length, codes_length}

-- what is given by a test is there where the test holds
given_some : {A : Type 0} (t : Bool) (a : A) → is_some (given t a) ≡ t
given_some true a = refl
given_some false a = refl

-- is there a register? the tests at the places say
pub some_given : (s : List ℕ) → is_some (register s) ≡ passes_in s (count s) (code_count s (count s))
some_given s = ap is_some (in_places s) ∙ given_some (passes_in s (count s) (code_count s (count s))) _

-- an old one?
pub old_given : (s : List ℕ) → is_some (old_register s) ≡ old_in s (count s)
old_given s = ap is_some (old_in_places s) ∙ given_some (old_in s (count s)) _

-- number j of what stands at some places
from_get : {A : Type 0} (f : ℕ → A) (d : A) (w at k j : ℕ) → j < k → get_or (map f (places_from w at k)) j d ≡ f (at + w * j)
unfolding places_from
from_get f d w at zero j h = absurd (omega arith)
from_get f d w at (suc k) zero h = rw (end_none w at)
from_get f d w at (suc k) (suc j) h = rw (end_next w at j) (from_get f d w (at + w) k j (omega arith))

module _ (s : List ℕ) (h : is_some (register s) ≡ true) where
  -- how many code lines it has
  abbrev pub code_count_of : ℕ
  code_count_of = code_count s (count s)

  by_places : passes_in s (count s) code_count_of ≡ true
  by_places = sym (some_given s) ∙ h

  pub register_some : register s ≡ some (register_in s (count s) code_count_of)
  register_some = in_places s ∙ rw by_places

  pub register_in_lem : register_of s ≡ register_in s (count s) code_count_of
  unfolding register_of
  register_in_lem = rw register_some

  -- the temporary account
  pub temporary_at_lem : (register_of s).temporary ≡ cut s 0 22
  unfolding register_in
  temporary_at_lem = ap (λ (r : Register). r.temporary) register_in_lem

  -- the account lines
  pub accounts_at_lem : (register_of s).accounts ≡ accounts_in s (count s)
  unfolding register_in
  accounts_at_lem = ap (λ (r : Register). r.accounts) register_in_lem

  pub accounts_count : length (register_of s).accounts ≡ count s
  accounts_count = ap length accounts_at_lem ∙ accounts_length s (count s)

  pub text_count_lem : count s ≤ 40
  unfolding register_in
  text_count_lem = rw accounts_length at (register_few s _ register_some)

  pub accounts_few : length (register_of s).accounts ≤ 40
  accounts_few = rw accounts_count text_count_lem

  -- the code lines
  pub codes_at_lem : (register_of s).codes ≡ codes_in s (place (count s)) code_count_of
  unfolding register_in
  codes_at_lem = ap (λ (r : Register). r.codes) register_in_lem

  pub text_codes : code_count_of ≤ 40
  unfolding register_in
  text_codes = rw codes_length at (codes_few s _ register_some)

  -- its length
  pub text_size : length s ≡ place (count s) + 35 * code_count_of + 5
  unfolding register_in
  text_size = register_size s _ register_some ∙ rw (accounts_length, codes_length)

  pub text_first : 24 ≤ length s
  text_first = omega (arith, text_size)

  module _ (i : ℕ) (k : i < length (register_of s).accounts) where
    account_at_lem : account_at (register_of s) i ≡ account_in s (place i)
    unfolding accounts_in
    account_at_lem = let b : i < count s = rw accounts_count at k in rw accounts_at_lem (from_get (account_in s) no_account 38 24 (count s) i b)

    pub line_room : place i + 38 ≤ length s
    line_room = let b : i < count s = rw accounts_count at k in omega (arith, text_size)

    pub line_few : i < 40
    line_few = omega (arith, accounts_few)

    pub iban_at : (account_at (register_of s) i).iban ≡ cut s (place i) (place i + 22)
    unfolding account_in
    iban_at = ap (λ (a : Account). a.iban) account_at_lem

    pub low_at : (account_at (register_of s) i).low ≡ bound_at s (place i + 23)
    unfolding account_in
    low_at = ap (λ (a : Account). a.low) account_at_lem

    pub high_at : (account_at (register_of s) i).high ≡ bound_at s (place i + 30)
    unfolding account_in
    high_at = ap (λ (a : Account). a.high) account_at_lem

-- account line i begins at r
pub record LinePlace (s : List ℕ) (i r : ℕ) : Type 0 where
  pub same : r ≡ place i
  pub room : r + 38 ≤ length s

module _ (s : List ℕ) (h : is_some (register s) ≡ true) where
  pub found_start : (n : ℕ) → n ≡ count s → (c : List ℕ) → found_in c s 0 n ≡ found c 0 (register_of s).accounts
  unfolding found_in accounts_in
  found_start n e c = rw (accounts_at_lem s h, e, upto_all)

  module _ (i : ℕ) (k : i < length (register_of s).accounts) where
    pub line_place : LinePlace s i (24 + 38 * i)
    line_place = record { same = refl; room = line_room s h i k }

    module _ (at r : ℕ) (p : LinePlace s i at) where
      pub low_read : r ≡ bound_at s (at + 23) → r ≡ (account_at (register_of s) i).low
      low_read e = e ∙ rw p.same (sym (low_at s h i k))

      pub high_read : r ≡ bound_at s (at + 30) → r ≡ (account_at (register_of s) i).high
      high_read e = e ∙ rw p.same (sym (high_at s h i k))

-- ---- the search in a text that passed

module _ (s : List ℕ) (h : is_some (register s) ≡ true) where
  pub temporary_part : take 22 s ≡ (register_of s).temporary
  unfolding cut
  temporary_part = sym (temporary_at_lem s h)

  module _ (i : ℕ) (k : i < length (register_of s).accounts) where
    -- the parts of account line i
    module _ (l : List ℕ) (e : l ≡ cut s (place i) (place i + 38)) where
      pub iban_part : take 22 l ≡ (account_at (register_of s) i).iban
      iban_part = rw (e, iban_at s h i k) (cut_take s (place i) (place i + 38) 22 (omega arith))

      -- six bytes of it, from byte n on
      six : (n : ℕ) → n ≤ 32 → take 6 (drop n l) ≡ cut s (place i + n) (place i + n + 6)
      six n m = rw (e, cut_drop s (place i) (place i + 38) n) (cut_take s (place i + n) (place i + 38) 6 (omega (arith, m)))

      pub low_part : (r : ℕ) → r ≡ bound (take 6 (drop 23 l)) → r ≡ (account_at (register_of s) i).low
      unfolding bound_at
      low_part r u = rw (low_at s h i k, ← six 23 (omega arith)) u

      pub high_part : (r : ℕ) → r ≡ bound (take 6 (drop 30 l)) → r ≡ (account_at (register_of s) i).high
      unfolding bound_at
      high_part r u = rw (high_at s h i k, ← six 30 (omega arith)) u

pub ruleset passed = (temporary_part, line_room, iban_part, low_part, high_part)
