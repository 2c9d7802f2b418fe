-- An account read: the papers' reading for each case of the code's, a law for each way that the code goes, and the compact form made character by character.
use Rattle.std.specs.Prelude.{◌≡◌, refl, Option, Some, Bool, true, false, List, ℕ, zero, suc, ◌+◌, ◌-◌, ◌*◌, ◌/◌, ◌≤◌, ◌<◌, get_or, set, take, drop, replicate}
use Rattle.std.proofs.Common.{sym, ◌∙◌, arith, length-set, length-take, take_all, take-take, take-suc, take-suc-set}
use Rattle.std.proofs.Math.Option as M
use Rattle.std.proofs.Math.Option.{none, some, map}
use Rattle.std.proofs.Math.Path.{ap}
use Rattle.std.proofs.Math.ListN.{length}
use Rattle.std.proofs.lemmas.List.{drop-take}
use Rattle.rules.specs.Text.{ascii, fits, given, otherwise}
use Rattle.rules.specs.Accounts as paper
use Rattle.rules.specs.Accounts.{iban_shape, joined_groups, compact, grouped_shape, read_compact, read_grouped, read_account}
use Rattle.laws.specs.Parts.{cut, cut_length, cut_take}
use Rattle.laws.specs.Tests.{not_holds}
use Rattle.laws.specs.Told.{told}
use Rattle.rule_laws.specs.Groups.{joined_length, joined_at, iban_length, grouped_length, shape_compact}
use Rattle.account.specs.declared.read.AccountForm.{AccountForm}
use Rattle.account.specs.declared.read.AccountForm.TheVariants.{Compact, Grouped}

-- ---- an account read

-- "how many characters it used, 22 or 27", and its 22 characters, of the bytes that were read
abbrev pub account_of : List ℕ → AccountForm → paper.AccountRead
account_of cs Compact = record { iban = take 22 cs; used = 22 }
account_of cs Grouped = record { iban = compact cs; used = 27 }

module _ (cs : List ℕ) where
  pub read_whole : iban_shape (take 22 cs) ≡ true → some record { iban = take 22 cs; used = 22 } ≡ read_account cs
  unfolding read_account read_compact
  read_whole h = rw h

  -- no compact form: too few bytes, or another shape
  pub record Other : Type 0 where
    pub other : iban_shape (take 22 cs) ≡ false

  pub few_bytes : length cs < 22 → Other
  few_bytes h = record { other = sym (not_holds _ (λ q. omega (arith, iban_length _ q, length-take 22 cs))) }

  pub other_shape : (t : Bool) → t ≡ iban_shape (take 22 cs) → t ≡ false → Other
  other_shape t u d = record { other = sym u ∙ d }

  module _ (o : Other) (v : Bool) (w : v ≡ fits (ascii "BGnn aaaa nnnn nncc cccc cc") (take 27 cs)) where
    groups : grouped_shape (take 27 cs) ≡ v
    unfolding grouped_shape
    groups = sym w

    pub read_groups : v ≡ true → some record { iban = compact cs; used = 27 } ≡ read_account cs
    unfolding read_account read_compact read_grouped
    read_groups f = rw (o.other, groups, f)

    pub no_groups : v ≡ false → none ≡ read_account cs
    unfolding read_account read_compact read_grouped
    no_groups f = rw (o.other, groups, f)

-- too few bytes for a form
few_compact : (cs : List ℕ) → length cs < 22 → read_compact cs ≡ none
unfolding read_compact
few_compact cs h = let e : false ≡ iban_shape (take 22 cs) = not_holds _ (λ q. omega (arith, iban_length _ q, length-take 22 cs)) in rw (← e)

few_grouped : (cs : List ℕ) → length cs < 27 → read_grouped cs ≡ none
unfolding read_grouped
few_grouped cs h = let e : false ≡ grouped_shape (take 27 cs) = not_holds _ (λ q. omega (arith, grouped_length _ q, length-take 27 cs)) in rw (← e)

-- the pattern of the grouped form
pub grouped_told : (s : List ℕ) (at : ℕ) (t : Bool) → t ≡ fits (ascii "BGnn aaaa nnnn nncc cccc cc") (cut s at (at + 27)) → t ≡ grouped_shape (cut s at (at + 27))
unfolding grouped_shape
grouped_told s at t e = e

-- of the bytes between two places
module _ (s : List ℕ) (a b : ℕ) (l : b ≤ length s) where
  pub read_few : b - a < 22 → none ≡ read_account (cut s a b)
  unfolding read_account
  read_few h = let n : length (cut s a b) ≡ b - a = cut_length s a b l in rw (few_compact (cut s a b) (omega arith), few_grouped (cut s a b) (omega arith))

  module _ (t : Bool) (u : t ≡ iban_shape (cut s a (a + 22))) (h : 22 ≤ b - a) where
    shape : iban_shape (take 22 (cut s a b)) ≡ t
    shape = ap iban_shape (cut_take s a b 22 (omega arith)) ∙ sym u

    pub read_compact_lem : t ≡ true → some record { iban = take 22 (cut s a b); used = 22 } ≡ read_account (cut s a b)
    unfolding read_account read_compact
    read_compact_lem e = rw (shape, e)

    module _ (e : t ≡ false) where
      pub read_between : b - a < 27 → none ≡ read_account (cut s a b)
      unfolding read_account read_compact
      read_between k = let n : length (cut s a b) ≡ b - a = cut_length s a b l in rw (shape, e, few_grouped (cut s a b) (omega arith))

      module _ (k : 27 ≤ b - a) (v : Bool) (w : v ≡ grouped_shape (cut s a (a + 27))) where
        in_grouped : grouped_shape (take 27 (cut s a b)) ≡ v
        in_grouped = ap grouped_shape (cut_take s a b 27 (omega arith)) ∙ sym w

        pub read_grouped_lem : v ≡ true → some record { iban = compact (cut s a b); used = 27 } ≡ read_account (cut s a b)
        unfolding read_account read_compact read_grouped
        read_grouped_lem f = rw (shape, e, in_grouped, f)

        pub read_none : v ≡ false → none ≡ read_account (cut s a b)
        unfolding read_account read_compact read_grouped
        read_none f = rw (shape, e, in_grouped, f)

-- ---- what is known of an account that was read

-- how many bytes a reading used tells the form
used_by : M.Option paper.AccountRead → ℕ
used_by none = 0
used_by (some r) = r.used

read_by : Bool → Bool → List ℕ → M.Option paper.AccountRead
read_by t v cs = otherwise (given {A = paper.AccountRead} t record { iban = take 22 cs; used = 22 }) (given {A = paper.AccountRead} v record { iban = compact cs; used = 27 })

used_compact : (t v : Bool) (cs : List ℕ) → 22 ≡ used_by (read_by t v cs) → t ≡ true
unfolding used_by read_by
used_compact true v cs h = refl
used_compact false true cs h = absurd (omega arith)
used_compact false false cs h = absurd (omega arith)

used_grouped : (t v : Bool) (cs : List ℕ) → 27 ≡ used_by (read_by t v cs) → v ≡ true
unfolding used_by read_by
used_grouped true v cs h = absurd (omega arith)
used_grouped false true cs h = refl
used_grouped false false cs h = absurd (omega arith)

-- the compact form needs no byte behind the groups
joined_front : (n : ℕ) (cs : List ℕ) → joined_groups n (take (5 * n + 2) cs) ≡ joined_groups n cs
unfolding joined_groups
joined_front zero cs = take-take 2 2 cs (omega arith)
joined_front (suc n) cs =
    let e : 5 * suc n + 2 ≡ 5 + (5 * n + 2) = omega arith in
    rw (take-take 4 (5 * suc n + 2) cs (omega arith), e, drop-take 5 (5 * n + 2) cs, joined_front n (drop 5 cs))

module _ (cs : List ℕ) (q : Option AccountForm) (e : map (account_of cs) (told q) ≡ read_account cs) where
  used : used_by (map (account_of cs) (told q)) ≡ used_by (read_by (iban_shape (take 22 cs)) (grouped_shape (take 27 cs)) cs)
  unfolding read_account read_compact read_grouped read_by
  used = ap used_by e

  module _ (w : q ≡ Some Compact) where
    pub compact_shape : iban_shape (take 22 cs) ≡ true
    unfolding used_by
    compact_shape = used_compact _ _ cs (rw w at used)

    pub compact_room : 22 ≤ length cs
    compact_room = omega (arith, iban_length _ compact_shape, length-take 22 cs)

  module _ (w : q ≡ Some Grouped) where
    in_groups : grouped_shape (take 27 cs) ≡ true
    unfolding used_by
    in_groups = used_grouped _ _ cs (rw w at used)

    pub grouped_room : 27 ≤ length cs
    grouped_room = omega (arith, grouped_length _ in_groups, length-take 27 cs)

    -- its compact form
    module _ (iban : List ℕ) (i : iban ≡ compact cs) where
      pub iban_room : length iban ≡ 22
      iban_room = ap length i ∙ joined_length 5 cs grouped_room

      pub iban_shape_lem : iban_shape iban ≡ true
      iban_shape_lem = ap iban_shape (i ∙ sym (joined_front 5 cs)) ∙ shape_compact (take 27 cs) in_groups

-- ---- the compact form

-- its first k characters are made
pub record Joining (cs : List ℕ) (k : ℕ) (iban : List ℕ) : Type 0 where
  pub few : k ≤ 22
  pub size : length iban ≡ 22
  pub same : take k iban ≡ take k (compact cs)

pub joining_start : (cs : List ℕ) → Joining cs 0 (replicate 22 0)
joining_start cs = record { few = omega arith; size = refl; same = refl }

module _ (cs : List ℕ) (k : ℕ) (iban : List ℕ) (w : Joining cs k iban) (l : 27 ≤ length cs) where
  pub joining_more : k < 22 → Joining cs (k + 1) (set iban k (get_or cs (k + k / 4) 0))
  joining_more h =
      let e : k + 1 ≡ suc k = omega arith in
      let n : length (compact cs) ≡ 22 = joined_length 5 cs l in record {
        few = omega arith;
        size = length-set iban k _ ∙ w.size;
        same = rw (e, take-suc (compact cs) k 0 (omega arith), joined_at 5 k cs h l, ← w.same) (take-suc-set iban k (get_or cs (k + k / 4) 0) (omega (arith, w.size)));
      }

  pub joining_end : 22 ≤ k → iban ≡ compact cs
  joining_end h =
      let e : k ≡ 22 = omega (arith, w.few) in
      let n : length (compact cs) ≡ 22 = joined_length 5 cs l in
      sym (take_all 22 iban (omega (arith, w.size))) ∙ (rw e at w).same ∙ take_all 22 (compact cs) (omega arith)

pub ruleset readings = (read_whole, few_bytes, other_shape, read_groups, no_groups, joining_start, joining_more, joining_end)
