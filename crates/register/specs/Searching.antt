-- The search in a text that passed: its account lines are counted from the end on, and a code leads to the account line of the IBAN beside it.
use Rattle.std.specs.Prelude.{◌≡◌, refl, Bool, true, false, ◌&&◌, cond, List, Option, ℕ, zero, suc, ◌+◌, ◌-◌, ◌*◌, ◌/◌, ◌≤◌, ◌<◌, leb, eqb, length, get_or, take, drop}
use Rattle.std.proofs.Common.{sym, ap, ◌∙◌, arith, eqb-true, eq-eqb}
use Rattle.std.proofs.Math.Option.{none}
use Rattle.rules.specs.Text.{is_digit, is_alnum, every, equal, is_some}
use Rattle.rules.specs.Accounts.{passes}
use Rattle.rules.specs.Register.{register, register_of}
use Rattle.rules.specs.Verdict.{found, iban_beside, line_by_code}
use Rattle.rules.specs.Moves.{has_codes}
use Rattle.laws.specs.Parts.{cut, cut_length}
use Rattle.laws.specs.Told.{told}
use Rattle.laws.specs.Slices.{part_cut}
use Rattle.laws.specs.Every.{every_within, every_first}
use Rattle.laws.specs.Equal.{equal_true}
use Rattle.laws.specs.Tests.{and_left, and_right, cond_left, cond_right, never, not_holds}
use Rattle.rule_laws.specs.Signs.{iban_alnum, alnum_other}
use Rattle.rule_laws.specs.Registers.{register_length}
use Rattle.register_lines.specs.Places.{places_from, end_next, end_none, upto_all, ends_at, form_at, account_stands, code_stands, code_in}
use Rattle.register.specs.Whole.{place, count, code_count, codes_in, beside_in}
use Rattle.register.specs.Sections.{leading_all}
use Rattle.register.specs.Agree.{codes_length}
use Rattle.register_lines.specs.Formed.{code_signs}
use Rattle.register.specs.Turns.{beside_here, beside_more, beside_end}
use Rattle.register_lines.specs.Forms.{account_room, code_room}
use Rattle.register.specs.Passed.{code_count_of, text_size, text_codes, text_count_lem, accounts_count, codes_at_lem}

-- ---- what tells a code line from an account line

code_comma : (s : List ℕ) (at : ℕ) → code_stands s at ≡ true → get_or s (at + 10) 0 ≡ 44
code_comma s at h =
    let k : (every is_digit (cut s at (at + 10)) && cond (eqb 44 (get_or s (at + 10) 0)) (every is_alnum (cut s (at + 11) (at + 11 + 22))) false && ends_at s (at + 33)) ≡ true = sym (code_signs s at (code_room s at h)) ∙ h in
    sym (eqb-true 44 (get_or s (at + 10) 0) (cond_left _ _ (and_right (every is_digit (cut s at (at + 10))) _ (and_left _ _ k))))

account_sign : (s : List ℕ) (at : ℕ) → account_stands s at ≡ true → get_or s (at + 13) 0 ≡ 44 → ⊥
unfolding account_stands passes
account_sign s at h e =
    let room : at + 38 ≤ length s = account_room s at h in
    let p : passes (cut s at (at + 22)) ≡ true = and_right (form_at s at && ends_at s (at + 36)) _ (and_left _ _ h) in
    let a : every is_alnum (cut s (at + 13) (at + 22)) ≡ true = every_within is_alnum s at (at + 22) (at + 13) (at + 22) (iban_alnum (cut s at (at + 22)) (and_left _ _ p)) (omega arith) (omega arith) (omega arith) in
    let c : is_alnum (get_or s (at + 13) 0) ≡ true = every_first is_alnum s (at + 13) (at + 22) a (omega arith) (omega arith) in
    never (sym (alnum_other 44 (get_or s (at + 13) 0) (omega arith) c) ∙ eq-eqb _ 44 e)

-- what passes at each place passes at place j
from_every : (t : ℕ → Bool) (w at k j : ℕ) → every t (places_from w at k) ≡ true → j < k → t (at + w * j) ≡ true
unfolding places_from every
from_every t w at zero j g h = absurd (omega arith)
from_every t w at (suc k) zero g h = rw (end_none w at) (cond_left _ _ g)
from_every t w at (suc k) (suc j) g h = rw (end_next w at j) (from_every t w (at + w) k j (cond_right (t at) _ g) (omega arith))

account_stands_lem : (s : List ℕ) (i : ℕ) → i < count s → account_stands s (place i) ≡ true
unfolding count
account_stands_lem s i h = from_every (account_stands s) 38 24 (count s) i (leading_all (account_stands s) 38 24 40) h

code_stands_lem : (s : List ℕ) (j : ℕ) → j < code_count s (count s) → code_stands s (place (count s) + 35 * j) ≡ true
unfolding code_count
code_stands_lem s j h = from_every (code_stands s) 35 (place (count s)) (code_count s (count s)) j (leading_all (code_stands s) 35 (place (count s)) 40) h

-- ---- account lines, counted from the end

-- before the last line, five bytes before a place, stand code lines alone: so many are left
pub record Ending (s : List ℕ) (end : ℕ) : Type 0 where
  pub left : ℕ
  pub few : left ≤ code_count s (count s)
  pub same : end ≡ place (count s) + 35 * left + 5
  pub within : end ≤ length s
  pub most : count s ≤ 40
  pub small : left ≤ 40
  pub size : length s ≤ 2949
  pub accounts : length (register_of s).accounts ≡ count s

-- r is the number of account lines
pub record AccountCount (s : List ℕ) (r : ℕ) : Type 0 where
  pub same : r ≡ length (register_of s).accounts
  pub few : r ≤ 40
  pub behind : 24 + 38 * r ≤ length s
  pub size : length s ≤ 2949

pub ending_start : (s : List ℕ) → is_some (register s) ≡ true → Ending s (length s)
ending_start s h = record { left = code_count_of s h; few = omega arith; same = text_size s h; within = omega arith; most = text_count_lem s h; small = text_codes s h; size = register_length s h; accounts = accounts_count s h }

module _ (s : List ℕ) (end : ℕ) (e : Ending s end) (h : 29 < end) where
  -- before an account line's end stands none of its commas
  no_code : e.left ≡ 0 → get_or s (end - 30) 0 ≡ 44 → ⊥
  no_code z c =
      let n : 0 < count s = omega (arith, e.same) in
      let p : end - 30 ≡ place (count s - 1) + 13 = omega (arith, e.same) in
      account_sign s (place (count s - 1)) (account_stands_lem s (count s - 1) (omega arith)) (rw p at c)

  -- before a code line's end stands its comma
  a_code : 0 < e.left → get_or s (end - 30) 0 ≡ 44
  a_code n =
      let p : end - 30 ≡ place (count s) + 35 * (e.left - 1) + 10 = omega (arith, e.same) in
      rw p (code_comma s (place (count s) + 35 * (e.left - 1)) (code_stands_lem s (e.left - 1) (omega (arith, e.few))))

  some_left : get_or s (end - 30) 0 ≡ 44 → 0 < e.left
  some_left c = go e.left refl
    where
      go : (n : ℕ) → e.left ≡ n → 0 < e.left
      go zero z = absurd (no_code z c)
      go (suc n) z = omega arith

  pub ending_more : get_or s (end - 30) 0 ≡ 44 → Ending s (end - 35)
  ending_more c = let n : 0 < e.left = some_left c in record { left = e.left - 1; few = omega (arith, e.few); same = omega (arith, e.same); within = omega (arith, e.within); most = e.most; small = omega (arith, e.small); size = e.size; accounts = e.accounts }

  pub ending_room : get_or s (end - 30) 0 ≡ 44 → 35 ≤ end
  ending_room c = let n : 0 < e.left = some_left c in omega (arith, e.same)

  none_left : (get_or s (end - 30) 0 ≡ 44 → ⊥) → e.left ≡ 0
  none_left c = go e.left refl
    where
      go : (n : ℕ) → e.left ≡ n → e.left ≡ 0
      go zero z = z
      go (suc n) z = absurd (c (a_code (omega arith)))

  pub ending_here : (get_or s (end - 30) 0 ≡ 44 → ⊥) → AccountCount s ((end - 29) / 38)
  ending_here c =
      let z : e.left ≡ 0 = none_left c in
      record { same = omega (arith, e.same, e.accounts); few = omega (arith, e.same, e.most); behind = omega (arith, e.same, e.within); size = e.size }

pub ending_none : (s : List ℕ) (end : ℕ) → Ending s end → end ≤ 29 → AccountCount s 0
ending_none s end e h = record { same = omega (arith, e.same, e.accounts); few = omega arith; behind = omega (arith, e.same, e.within); size = e.size }

-- ---- a code

-- a code of another length is not listed
other_size : (s : List ℕ) (c : List ℕ) (at k : ℕ) → (length c ≡ 10 → ⊥) → every (code_stands s) (places_from 35 at k) ≡ true → iban_beside c (codes_in s at k) ≡ none
unfolding codes_in places_from every iban_beside code_in
other_size s c at zero n g = refl
other_size s c at (suc k) n g =
    let room : at + 35 ≤ length s = code_room s at (cond_left _ _ g) in
    let d : equal (cut s at (at + 10)) c ≡ false = sym (not_holds _ (λ w. n (sym (ap length (equal_true _ _ w)) ∙ cut_length s at (at + 10) (omega arith) ∙ omega arith))) in
    rw (d, other_size s c (at + 35) k n (cond_right (code_stands s at) _ g))

module _ (s : List ℕ) (h : is_some (register s) ≡ true) where
  pub code_unlisted : (c : List ℕ) → (length c ≡ 10 → ⊥) → none ≡ line_by_code (register_of s) c
  unfolding line_by_code code_count
  code_unlisted c n =
      let e : iban_beside c (codes_in s (place (count s)) (code_count s (count s))) ≡ none =
      other_size s c (place (count s)) (code_count s (count s)) n (leading_all (code_stands s) 35 (place (count s)) 40) in
      rw (codes_at_lem s h, e)

-- the code lines begin at a place, and there are m of them
pub record CodesOf (s : List ℕ) (at m : ℕ) : Type 0 where
  pub place_is : at ≡ place (count s)
  pub number_is : m ≡ code_count s (count s)
  pub low : at ≤ 1544
  pub few : m ≤ 40
  pub room : at + 35 * m ≤ length s

pub codes_told : (s : List ℕ) (n : ℕ) → is_some (register s) ≡ true → AccountCount s n → CodesOf s (24 + 38 * n) ((length s - (24 + 38 * n)) / 35)
codes_told s n h e = record {
  place_is = omega (arith, e.same, accounts_count s h);
  number_is = omega (arith, e.same, accounts_count s h, text_size s h);
  low = omega (arith, e.few);
  few = omega (arith, e.same, accounts_count s h, text_size s h, text_codes s h);
  room = omega (arith, e.same, accounts_count s h, text_size s h);
}

-- there are some where the register has codes
pub codes_some : (s : List ℕ) (at m : ℕ) → is_some (register s) ≡ true → CodesOf s at m → leb 1 m ≡ has_codes (register_of s)
unfolding has_codes
codes_some s at m h k = rw (codes_at_lem s h, codes_length, k.number_is)

-- code lines j up to m are left, and the code stands beside the same IBAN in them as in all
pub record Seeking (s c : List ℕ) (at m j : ℕ) : Type 0 where
  pub codes : CodesOf s at m
  pub same : beside_in c s at j m ≡ iban_beside c (register_of s).codes

pub seeking_start : (s c : List ℕ) (at m : ℕ) → is_some (register s) ≡ true → CodesOf s at m → Seeking s c at m 0
unfolding beside_in codes_in
seeking_start s c at m h k = record { codes = k; same = rw (codes_at_lem s h, ← k.place_is, ← k.number_is, upto_all) }

module _ (s c : List ℕ) (at m j : ℕ) (k : Seeking s c at m j) (h : j < m) where
  pub seeking_room : at + 35 * j + 35 ≤ length s
  seeking_room = omega (arith, k.codes.room)

  pub seeking_low : at + 35 * j ≤ 2944
  seeking_low = omega (arith, k.codes.low, k.codes.few)

  module _ (t : Bool) (u : t ≡ equal (take (at + 35 * j + 10 - (at + 35 * j)) (drop (at + 35 * j) s)) c) where
    pub seeking_more : t ≡ false → Seeking s c at m (j + 1)
    seeking_more d = record { codes = k.codes; same = beside_more s at j m c _ k.same h t u d }

    -- the answer of the search for its account
    pub code_found : t ≡ true → (q : Option ℕ) → told q ≡ found (take (at + 35 * j + 33 - (at + 35 * j + 11)) (drop (at + 35 * j + 11) s)) 0 (register_of s).accounts → told q ≡ line_by_code (register_of s) c
    unfolding line_by_code
    code_found d q f =
        let e : at + 35 * j + 11 + 22 ≡ at + 35 * j + 33 = omega arith in
        rw (← beside_here s at j m c _ k.same h t u d, e) (rw (part_cut s (at + 35 * j + 11) (at + 35 * j + 33) (omega arith)) at f)

pub code_missing : (s c : List ℕ) (at m j : ℕ) → Seeking s c at m j → m ≤ j → none ≡ line_by_code (register_of s) c
unfolding line_by_code
code_missing s c at m j k h = rw (← beside_end s at j m c _ k.same h)

pub ruleset searching = (ending_start, ending_more, ending_room, ending_here, ending_none, code_unlisted, codes_told, codes_some, seeking_start, seeking_room, seeking_low, seeking_more, code_found, code_missing)
