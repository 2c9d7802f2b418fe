-- The lines of a register looked through one by one: a law for each way on and out of a loop.
use Rattle.std.specs.Prelude.{◌≡◌, Bool, true, false, not, List, [], ◌∷◌, ℕ, suc, ◌+◌, ◌-◌, ◌*◌, ◌≤◌, ◌<◌, length, get_or, take, drop}
use Rattle.std.proofs.Common.{◌∙◌, ap, arith, add-one, drop-cons, drop_of_length-le}
use Rattle.std.proofs.Math.Option.{Option, none, some}
use Rattle.rules.specs.Text.{equal, any, twice}
use Rattle.rules.specs.Register.{Account, is_foreign}
use Rattle.rules.specs.Verdict.{found, no_account, iban_beside}
use Rattle.laws.specs.Parts.{cut}
use Rattle.laws.specs.Slices.{part_cut}
use Rattle.register_lines.specs.Places.{places_from, upto_step, upto_done, upto_all, key_in, account_in, code_in, stands_in, repeat_in}
use Rattle.register.specs.Whole.{accounts_in, codes_in, found_in, foreign_in, foreign_from, beside_in, again_in}
use Rattle.register.specs.Agree.{ibans_of}

-- the first line's IBAN before those of the account lines
module _ (s : List ℕ) (n : ℕ) (t : Bool) (u : t ≡ stands_in s 22 38 (take 22 s) 24 0 n) where
  pub again_first : t ≡ true → t ≡ again_in s n
  unfolding again_in stands_in twice key_in cut
  again_first d = d ∙ rw (← u, d)

  pub again_others : t ≡ false → (r : Bool) → r ≡ repeat_in s 22 38 24 0 n → r ≡ again_in s n
  unfolding again_in stands_in repeat_in twice key_in cut
  again_others d r e = rw (← u, d) e

-- ---- is an account foreign

-- one place of k, and those behind it
from_step : (w at k : ℕ) → 0 < k → places_from w at k ≡ at ∷ places_from w (at + w) (k - 1)
unfolding places_from
from_step w at k h = let e : k ≡ suc (k - 1) = omega arith in ap (places_from w at) e

from_done : (w at k : ℕ) → k ≤ 0 → places_from w at k ≡ []
unfolding places_from
from_done w at k h = let e : k ≡ 0 = omega arith in rw e

module _ (s : List ℕ) (n at k : ℕ) (x : Bool) (inv : foreign_in s n at k ≡ x) where
  module _ (h : 0 < k) (t : Bool) (u : t ≡ stands_in s 22 38 (key_in s 22 (at + 11)) 24 0 n) where
    own : is_foreign (accounts_in s n) (code_in s at) ≡ not t
    unfolding is_foreign code_in stands_in key_in
    own = rw (ibans_of, u)

    pub foreign_here : t ≡ false → true ≡ x
    unfolding foreign_in codes_in any
    foreign_here d = rw (from_step 35 at k h, own, d) at inv

    pub foreign_more : t ≡ true → foreign_in s n (at + 35) (k - 1) ≡ x
    unfolding foreign_in codes_in any
    foreign_more d = rw (from_step 35 at k h, own, d) at inv

  pub foreign_end : k ≤ 0 → false ≡ x
  unfolding foreign_in codes_in any
  foreign_end h = rw (from_done 35 at k h) at inv

-- those from line k on
pub foreign_start : (s : List ℕ) (n at m : ℕ) → foreign_from s n at 0 m ≡ foreign_in s n at m
unfolding foreign_from foreign_in codes_in
foreign_start s n at m = rw upto_all

module _ (s : List ℕ) (n at k m : ℕ) (x : Bool) (inv : foreign_from s n at k m ≡ x) where
  module _ (h : k < m) (t : Bool) (u : t ≡ stands_in s 22 38 (take (at + 35 * k + 11 + 22 - (at + 35 * k + 11)) (drop (at + 35 * k + 11) s)) 24 0 n) where
    line_own : is_foreign (accounts_in s n) (code_in s (at + 35 * k)) ≡ not t
    unfolding is_foreign code_in stands_in
    line_own = rw (ibans_of, u, part_cut s (at + 35 * k + 11) (at + 35 * k + 11 + 22) (omega arith))

    pub line_foreign : t ≡ false → true ≡ x
    unfolding foreign_from any
    line_foreign d = rw (upto_step 35 at k m h, line_own, d) at inv

    pub line_known : t ≡ true → foreign_from s n at (k + 1) m ≡ x
    unfolding foreign_from any
    line_known d = rw (upto_step 35 at k m h, line_own, d) at inv

  pub lines_known : m ≤ k → false ≡ x
  unfolding foreign_from any
  lines_known h = rw (upto_done 35 at k m h) at inv

-- ---- the searches

-- among the account lines of a text
module _ (s : List ℕ) (i n : ℕ) (c : List ℕ) (x : Option ℕ) (inv : found_in c s i n ≡ x) where
  module _ (h : i < n) (t : Bool) (u : t ≡ equal (cut s (24 + 38 * i) (24 + 38 * i + 22)) c) where
    pub found_here : t ≡ true → some i ≡ x
    unfolding found_in account_in found
    found_here d = rw (upto_step 38 24 i n h, ← u, d) at inv

    pub found_more : t ≡ false → found_in c s (i + 1) n ≡ x
    unfolding found_in account_in found
    found_more d = rw (upto_step 38 24 i n h, ← u, d) at inv

  pub found_end : n ≤ i → none ≡ x
  unfolding found_in found
  found_end h = rw (upto_done 38 24 i n h) at inv

-- among accounts
module _ (xs : List Account) (i : ℕ) (c : List ℕ) (x : Option ℕ) (inv : found c i (drop i xs) ≡ x) where
  module _ (h : i < length xs) (t : Bool) (u : t ≡ equal (get_or xs i no_account).iban c) where
    next : drop i xs ≡ get_or xs i no_account ∷ drop (i + 1) xs
    next = rw (add-one i) (drop-cons xs i no_account h)

    pub account_here : t ≡ true → some i ≡ x
    unfolding found
    account_here d = rw (next, ← u, d) at inv

    pub account_more : t ≡ false → found c (i + 1) (drop (i + 1) xs) ≡ x
    unfolding found
    account_more d = rw (next, ← u, d) at inv

  pub account_end : length xs ≤ i → none ≡ x
  unfolding found
  account_end h = let e : drop i xs ≡ [] = drop_of_length-le xs {i = i} h in rw e at inv

module _ (s : List ℕ) (at j m : ℕ) (c : List ℕ) (x : Option (List ℕ)) (inv : beside_in c s at j m ≡ x) where
  module _ (h : j < m) (t : Bool) (u : t ≡ equal (take (at + 35 * j + 10 - (at + 35 * j)) (drop (at + 35 * j) s)) c) where
    this : t ≡ equal (cut s (at + 35 * j) (at + 35 * j + 10)) c
    this = rw (part_cut s (at + 35 * j) (at + 35 * j + 10) (omega arith)) at u

    pub beside_here : t ≡ true → some (cut s (at + 35 * j + 11) (at + 35 * j + 11 + 22)) ≡ x
    unfolding beside_in code_in iban_beside
    beside_here d = rw (upto_step 35 at j m h, ← this, d) at inv

    pub beside_more : t ≡ false → beside_in c s at (j + 1) m ≡ x
    unfolding beside_in code_in iban_beside
    beside_more d = rw (upto_step 35 at j m h, ← this, d) at inv

  pub beside_end : m ≤ j → none ≡ x
  unfolding beside_in iban_beside
  beside_end h = rw (upto_done 35 at j m h) at inv

pub ruleset turns = (again_first, again_others, foreign_start, line_foreign, line_known, lines_known, account_here, account_more, account_end, beside_here, beside_more, beside_end)
