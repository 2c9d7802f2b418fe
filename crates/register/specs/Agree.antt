-- A text passes 9 exactly where the tests at its places hold, and then the register is what stands there; so it is of an old text.
use Rattle.std.specs.Prelude.{◌≡◌, Bool, ◌&&◌, ℕ, zero, suc, ◌+◌, ◌*◌, ◌≤◌, leb, length, take, drop}
use Rattle.std.proofs.Math.Path.{refl, sym, ap}
use Rattle.std.proofs.Common.{◌∙◌, arith}
use Rattle.std.proofs.Math.Bool.{true, false, not}
use mathlib.Core.List.{List, [], ◌∷◌, ◌++◌, map, append-nil, append_assoc}
use Rattle.std.proofs.Math.Option
use Rattle.std.proofs.Math.Option.{Option, none, some}
use Rattle.std.proofs.Math.Dec.{eqb}
use Rattle.std.proofs.lemmas.List.{length-map}
use borrow.Author.Tests.{eqb-true, eq-eqb, le-leb, leb-true}
use Rattle.rules.specs.Text.{ascii, is_digit, is_letter, is_alnum, fits_sign, equal, every, fits, given, any, twice}
use Rattle.rules.specs.Accounts.{iban_shape, passes}
use Rattle.rules.specs.Lines.{Line, before, lines}
use Rattle.rules.specs.Register.{Account, Code, Register, account_line, code_line, account_ibans, sound_accounts, same_code, sound_codes, sound, register, old_register}
use Rattle.rules.specs.Moves.{end_line}
use Rattle.laws.specs.Parts.{cut, cut_take, cut_drop, from, from_done, from_all}
use Rattle.laws.specs.Equal.{equal_true}
use Rattle.laws.specs.Tests.{and_left, and_right, never}
use Rattle.rule_laws.specs.Lines.{Lined, Lined.end as done, Lined.next, lines_lined}
use Rattle.rule_laws.specs.Options.{Gave, gave, Reads, Unread, Unread.end, Unread.stops}
use Rattle.rule_laws.specs.Registers.{last_line, last_code, RegisterRead, register_read, lines_parted, register_of_lem, register_sound, codes_few, others_unread, OldRead, old_read, old_of, old_size}
use Rattle.register_lines.specs.Blocks.{inside, line_at_lem, LinesStand, stands}
use Rattle.register_lines.specs.Places.{places_from, upto, upto_all, ends_at, form_at, bound_at, key_in, account_in, account_stands, code_form, code_in, code_stands, keys_in, repeat_in, first_in}
use Rattle.register.specs.Whole.{place, accounts_in, codes_in, foreign_in, count, code_count, again_in, lines_test, closes_at, passes_in, old_in, register_in}
use Rattle.register.specs.Sections.{LineForm, line_at, leading_all, leading_few, leading_is, lines_on, reads_on, Stand, lines_back, none_stands}
use Rattle.register_lines.specs.Forms.{account_ended, code_ended}
use Rattle.register_lines.specs.AccountLine.{account_form, account_on, line_on, account_line_lem}

-- ---- account lines

module _ (s : List ℕ) (at : ℕ) where
  at_low : take 6 (drop 23 (cut s at (at + 36))) ≡ cut s (at + 23) (at + 23 + 6)
  at_low = rw cut_drop (cut_take s (at + 23) (at + 36) 6 (omega arith))

  at_high : take 6 (drop 30 (cut s at (at + 36))) ≡ cut s (at + 30) (at + 30 + 6)
  at_high = rw cut_drop (cut_take s (at + 30) (at + 36) 6 (omega arith))

  account_in_lem : account_on (cut s at (at + 36)) ≡ account_in s at
  unfolding account_on account_in bound_at
  account_in_lem = rw (at_low, at_high, cut_take s at (at + 36) 22 (omega arith))

  line_in_lem : (line_on (cut s at (at + 36)) && ends_at s (at + 36)) ≡ account_stands s at
  unfolding line_on account_stands form_at bound_at
  line_in_lem = rw (at_low, at_high, cut_take s at (at + 36) 22 (omega arith)) (go (fits account_form (cut s at (at + 36))) (passes (cut s at (at + 22))) _ (ends_at s (at + 36)))
    where
      go : (a b c d : Bool) → (a && b && c && d) ≡ (a && d && b && c)
      go true true true true = refl
      go true true true false = refl
      go true true false true = refl
      go true true false false = refl
      go true false c true = refl
      go true false c false = refl
      go false b c d = refl

-- neither form has room for CR or LF, nor has an IBAN
abbrev iban_form : List ℕ
iban_form = ascii "BGnnaaaannnnnncccccccc"

account_inside : every inside account_form ≡ true
unfolding every inside fits_sign is_alnum is_digit is_letter
account_inside = refl

code_inside : every inside code_form ≡ true
unfolding every inside fits_sign is_alnum is_digit is_letter
code_inside = refl

iban_inside : every inside iban_form ≡ true
unfolding every inside fits_sign is_alnum is_digit is_letter
iban_inside = refl

account_fit : (l : Line) (a : Account) → account_line l ≡ some a → fits account_form l ≡ true
unfolding line_on
account_fit l a e = let g : Gave (line_on l) (account_on l) a = gave _ _ (sym (account_line_lem l) ∙ e) in and_left _ _ (and_left _ _ g.test)

account_read : (s : List ℕ) (at : ℕ) → account_stands s at ≡ true → account_line (cut s at (at + 36)) ≡ some (account_in s at)
account_read s at h = account_line_lem _ ∙ rw (and_left (line_on (cut s at (at + 36))) _ (line_in_lem s at ∙ h), account_in_lem)

account_back : (s : List ℕ) (at : ℕ) (a : Account) → account_line (cut s at (at + 36)) ≡ some a → ends_at s (at + 36) ≡ true → Gave (account_stands s at) (account_in s at) a
account_back s at a e h =
    let g : Gave (line_on (cut s at (at + 36))) (account_on (cut s at (at + 36))) a = gave _ _ (sym (account_line_lem (cut s at (at + 36))) ∙ e) in
    record { test = sym (line_in_lem s at) ∙ rw g.test h; is = sym (account_in_lem s at) ∙ g.is }

-- lines `IBAN,low,high`
abbrev account_lines : LineForm Account
account_lines = record {
  pattern = account_form;
  plain = account_inside;
  reader = account_line;
  standing = account_stands;
  value = account_in;
  fit = account_fit;
  read = account_read;
  ended = account_ended;
  back = account_back;
}

-- ---- code lines

code_in_lem : (s : List ℕ) (at : ℕ) → record { code = take 10 (cut s at (at + 33)); iban = drop 11 (cut s at (at + 33)) } ≡ code_in s at
unfolding code_in
code_in_lem s at = let e : at + 11 + 22 ≡ at + 33 = omega arith in rw (cut_take s at (at + 33) 10 (omega arith), cut_drop s at (at + 33) 11, e)

code_fit : (l : Line) (c : Code) → code_line l ≡ some c → fits code_form l ≡ true
unfolding code_line
code_fit l c e = (gave _ _ e).test

code_read : (s : List ℕ) (at : ℕ) → code_stands s at ≡ true → code_line (cut s at (at + 33)) ≡ some (code_in s at)
unfolding code_line code_stands
code_read s at h = rw (and_left (fits code_form (cut s at (at + 33))) _ h, code_in_lem)

code_back : (s : List ℕ) (at : ℕ) (c : Code) → code_line (cut s at (at + 33)) ≡ some c → ends_at s (at + 33) ≡ true → Gave (code_stands s at) (code_in s at) c
unfolding code_line code_stands
code_back s at c e h =
    let g : Gave (fits code_form (cut s at (at + 33))) _ c = gave _ _ e in
    record { test = rw g.test h; is = sym (code_in_lem s at) ∙ g.is }

-- lines `code,IBAN`
abbrev code_lines : LineForm Code
code_lines = record {
  pattern = code_form;
  plain = code_inside;
  reader = code_line;
  standing = code_stands;
  value = code_in;
  fit = code_fit;
  read = code_read;
  ended = code_ended;
  back = code_back;
}

-- ---- the whole text

from_length : (w at k : ℕ) → length (places_from w at k) ≡ k
unfolding places_from
from_length w at zero = refl
from_length w at (suc k) = ap suc (from_length w (at + w) k)

pub accounts_length : (s : List ℕ) (n : ℕ) → length (accounts_in s n) ≡ n
unfolding accounts_in
accounts_length s n = length-map (places_from 38 24 n) (account_in s) ∙ from_length 38 24 n

pub codes_length : (s : List ℕ) (at k : ℕ) → length (codes_in s at k) ≡ k
unfolding codes_in
codes_length s at k = length-map (places_from 35 at k) (code_in s) ∙ from_length 35 at k

-- the IBANs of account lines are their keys
pub ibans_of : (s : List ℕ) (n : ℕ) → account_ibans (accounts_in s n) ≡ keys_in s 22 (upto 38 24 0 n)
unfolding accounts_in keys_in account_in key_in
ibans_of s n = rw (upto_all 38 24 n) (go (places_from 38 24 n))
  where
    go : (ps : List ℕ) → account_ibans (map (account_in s) ps) ≡ map (key_in s 22) ps
    go [] = refl
    go (p ∷ ps) = ap (λ (r : List (List ℕ)). cut s p (p + 22) ∷ r) (go ps)

-- the codes of code lines are theirs
codes_twice : (s : List ℕ) (at k : ℕ) → twice same_code (codes_in s at k) ≡ repeat_in s 10 35 at 0 k
unfolding codes_in repeat_in keys_in code_in key_in same_code any twice
codes_twice s at k = rw (upto_all 35 at k) (go (places_from 35 at k))
  where
    some : (a : ℕ) (ps : List ℕ) → any (same_code (code_in s a)) (map (code_in s) ps) ≡ any (equal (key_in s 10 a)) (map (key_in s 10) ps)
    some a [] = refl
    some a (p ∷ ps) = rw (some a ps)

    go : (ps : List ℕ) → twice same_code (map (code_in s) ps) ≡ twice equal (map (key_in s 10) ps)
    go [] = refl
    go (p ∷ ps) = rw (some p ps, go ps)

-- what is asked of a register, by its places
accounts_sound : (s : List ℕ) (n m : ℕ) → sound_accounts (register_in s n m) ≡ (passes (cut s 0 22) && leb n 40 && not (again_in s n))
unfolding sound_accounts register_in again_in key_in
accounts_sound s n m = rw (accounts_length, ibans_of)

codes_sound : (s : List ℕ) (n m : ℕ) → sound_codes (register_in s n m) ≡ (leb m 40 && not (foreign_in s n (place n) m) && not (repeat_in s 10 35 (place n) 0 m))
unfolding sound_codes register_in foreign_in
codes_sound s n m = rw (codes_length, codes_twice)

-- the lines at the places
abbrev accounts_at : List ℕ → ℕ → List Line
accounts_at s n = map (line_at account_lines s) (places_from 38 24 n)

abbrev codes_at : List ℕ → ℕ → ℕ → List Line
codes_at s n m = map (line_at code_lines s) (places_from 35 (place n) m)

-- the last line stands where the text is no more than that line
closes_lines : (s : List ℕ) (at : ℕ) → closes_at s at ≡ true → lines (from s at) ≡ some (last_line ∷ [])
unfolding closes_at lines
closes_lines s at h = rw (equal_true (from s at) end_line h)

lines_close : (s : List ℕ) (at : ℕ) → lines (from s at) ≡ some (last_line ∷ []) → closes_at s at ≡ true
unfolding closes_at equal
lines_close s at h = go (lines_lined (from s at) (last_line ∷ []) h) refl
  where
    go : {t : List ℕ} → Lined t (last_line ∷ []) → from s at ≡ t → equal (from s at) end_line ≡ true
    go (next q done) e = rw e

-- behind the first line stand account lines
module _ (s : List ℕ) (n : ℕ) (first_holds : first_in s ≡ true) (a : every (account_stands s) (places_from 38 24 n) ≡ true) (rest : List Line) (others : lines (from s (place n)) ≡ some rest) where
  first_here : lines s ≡ Option.map (before (cut s 0 22)) (lines (from s 24))
  unfolding first_in ends_at passes iban_shape
  first_here = ap lines (sym (from_all s)) ∙ line_at_lem iban_form s 0 iban_inside (and_left _ _ (and_left _ _ first_holds)) (and_right (passes (cut s 0 22)) _ first_holds)

  accounts_here : lines s ≡ some (cut s 0 22 ∷ (accounts_at s n ++ rest))
  accounts_here = first_here ∙ rw (lines_on account_lines s 24 n rest a others)

-- where the tests at the places hold, there is a register
module _ (s : List ℕ) (n m : ℕ) (a : every (account_stands s) (places_from 38 24 n) ≡ true) (c : every (code_stands s) (places_from 35 (place n) m) ≡ true) (n-few : n ≤ 40) (m-few : m ≤ 40) (h : passes_in s n m ≡ true) where
  in_first : first_in s ≡ true
  unfolding passes_in
  in_first = and_left _ _ (and_left _ _ h)

  in_close : closes_at s (place n + 35 * m) ≡ true
  unfolding passes_in
  in_close = and_right (first_in s) _ (and_left _ _ h)

  in_lines_lem : lines_test s n m ≡ true
  unfolding passes_in
  in_lines_lem = and_right (first_in s && closes_at s (place n + 35 * m)) _ h

  in_single : not (again_in s n) ≡ true
  unfolding lines_test
  in_single = and_left _ _ (and_left _ _ in_lines_lem)

  in_own : not (foreign_in s n (place n) m) ≡ true
  unfolding lines_test
  in_own = and_right (not (again_in s n)) _ (and_left _ _ in_lines_lem)

  in_once : not (repeat_in s 10 35 (place n) 0 m) ≡ true
  unfolding lines_test
  in_once = and_right (not (again_in s n) && not (foreign_in s n (place n) m)) _ in_lines_lem

  pub in_register : register s ≡ some (register_in s n m)
  unfolding register_in accounts_in codes_in sound first_in
  in_register = register_of_lem s (register_in s n m) record {
    before = cut s 0 22 ∷ accounts_at s n ++ codes_at s n m;
    all =
        accounts_here s n in_first a (codes_at s n m ++ (last_line ∷ [])) (lines_on code_lines s (place n) m (last_line ∷ []) c (closes_lines s (place n + 35 * m) in_close))
        ∙ ap (λ (ls : List Line). some (cut s 0 22 ∷ ls)) (sym (append_assoc (accounts_at s n) (codes_at s n m) (last_line ∷ [])));
    read = record {
      account_lines = accounts_at s n;
      code_lines = codes_at s n m;
      all = refl;
      accounts = reads_on account_lines s 24 n a;
      codes = reads_on code_lines s (place n) m c;
      good = rw (accounts_sound s n m, codes_sound s n m, and_left (passes (cut s 0 22)) _ in_first, le-leb n 40 n-few, in_single, le-leb m 40 m-few, in_own, in_once);
    };
  }

-- an old register, likewise
module _ (s : List ℕ) (n : ℕ) (a : every (account_stands s) (places_from 38 24 n) ≡ true) (n-few : n ≤ 40) (h : old_in s n ≡ true) where
  old_first : first_in s ≡ true
  unfolding old_in
  old_first = and_left _ _ (and_left _ _ h)

  old_filled : length s ≡ place n
  unfolding old_in
  old_filled = eqb-true (length s) (place n) (and_right (first_in s) _ (and_left _ _ h))

  old_single : not (again_in s n) ≡ true
  unfolding old_in lines_test
  old_single = and_left _ _ (and_left _ _ (and_right (first_in s && eqb (length s) (place n)) _ h))

  none_left : lines (from s (place n)) ≡ some []
  unfolding lines
  none_left = rw (from_done s (place n) (omega (arith, old_filled)))

  in_old : old_register s ≡ some (register_in s n 0)
  unfolding register_in accounts_in codes_in places_from first_in
  in_old = old_of s (register_in s n 0) record {
    account_lines = accounts_at s n;
    all = rw append-nil at (accounts_here s n old_first a [] none_left);
    accounts = reads_on account_lines s 24 n a;
    codes = refl;
    good = rw (accounts_sound s n 0, and_left (passes (cut s 0 22)) _ old_first, le-leb n 40 n-few, old_single);
  }

-- ---- and back

-- a first line that passes and account lines, at their places, with other lines behind them
record Front (s : List ℕ) (r : Register) (rest : List Line) : Type 0 where
  first : first_in s ≡ true
  same : r.temporary ≡ cut s 0 22
  few : length r.accounts ≤ 40
  standing : Stand account_lines s 24 r.accounts rest

front : (s : List ℕ) (r : Register) (ls rest : List Line) → lines s ≡ some (r.temporary ∷ ls ++ rest) → Reads account_line ls r.accounts → sound_accounts r ≡ true → Front s r rest
unfolding sound_accounts passes iban_shape first_in ends_at
front s r ls rest all read good =
    let p : passes r.temporary ≡ true = and_left _ _ (and_left _ _ good) in
    let f : LinesStand iban_form s 0 iban_inside r.temporary (ls ++ rest) = stands iban_form s 0 iban_inside r.temporary (ls ++ rest) (rw from_all all) (and_left _ _ p) in
    record {
      first = rw (← f.same, p) f.ended;
      same = f.same;
      few = leb-true _ _ (and_right (passes r.temporary) _ (and_left _ _ good));
      standing = lines_back account_lines s 24 read f.others;
    }

module _ (s : List ℕ) (r : Register) (rest : List Line) (f : Front s r rest) where
  -- behind them stands none
  front_count : Unread account_line rest → count s ≡ length r.accounts
  unfolding count
  front_count u = leading_is (account_stands s) 38 24 40 (length r.accounts) f.standing.good f.few (none_stands account_lines s (place (length r.accounts)) f.standing.others u)

  -- and with its code lines it is the register at the places
  front_register : (m : ℕ) → r.codes ≡ codes_in s (place (length r.accounts)) m → r ≡ register_in s (length r.accounts) m
  unfolding register_in accounts_in
  front_register m e = λ i. record { temporary = f.same i; accounts = f.standing.same i; codes = e i }

front_single : (s : List ℕ) (r : Register) (n m : ℕ) → r ≡ register_in s n m → sound_accounts r ≡ true → not (again_in s n) ≡ true
front_single s r n m e good = and_right (passes (cut s 0 22) && leb n 40) _ (sym (accounts_sound s n m) ∙ ap sound_accounts (sym e) ∙ good)

-- where there is a register, the tests at the places hold
module _ (s : List ℕ) (r : Register) (h : register s ≡ some r) where
  its : RegisterRead s r
  its = register_read s r h

  -- its account lines and code lines
  abbrev n : ℕ
  n = length r.accounts

  abbrev m : ℕ
  m = length r.codes

  at_front : Front s r (its.read.code_lines ++ (last_line ∷ []))
  at_front = front s r its.read.account_lines (its.read.code_lines ++ (last_line ∷ [])) (lines_parted s r its) its.read.accounts (register_sound s r h)

  codes_stand : Stand code_lines s (place n) r.codes (last_line ∷ [])
  codes_stand = lines_back code_lines s (place n) its.read.codes at_front.standing.others

  count_is : count s ≡ n
  count_is = front_count s r _ at_front (others_unread its.read.codes)

  -- behind the code lines stands the last line, which is none of them
  code_count_is : code_count s n ≡ m
  unfolding code_count
  code_count_is = leading_is (code_stands s) 35 (place n) 40 m codes_stand.good (codes_few s r h) (none_stands code_lines s (place n + 35 * m) codes_stand.others (stops last_code))

  register_is : r ≡ register_in s n m
  unfolding codes_in
  register_is = front_register s r _ at_front m codes_stand.same

  codes_hold : (leb m 40 && not (foreign_in s n (place n) m) && not (repeat_in s 10 35 (place n) 0 m)) ≡ true
  unfolding sound
  codes_hold = sym (codes_sound s n m) ∙ ap sound_codes (sym register_is) ∙ and_right (sound_accounts r) _ its.read.good

  register_holds : passes_in s n m ≡ true
  unfolding passes_in lines_test
  register_holds = rw (
    at_front.first,
    lines_close s (place n + 35 * m) codes_stand.others,
    front_single s r n m register_is (register_sound s r h),
    and_right (leb m 40) _ (and_left _ _ codes_hold),
    and_right (leb m 40 && not (foreign_in s n (place n) m)) _ codes_hold,
  )

-- where there is an old one, those of an old one do
module _ (s : List ℕ) (r : Register) (h : old_register s ≡ some r) where
  old_its : OldRead s r
  old_its = old_read s r h

  old_front : Front s r []
  old_front = front s r old_its.account_lines [] (old_its.all ∙ rw append-nil) old_its.accounts old_its.good

  old_count : count s ≡ length r.accounts
  old_count = front_count s r [] old_front end

  old_register_lem : r ≡ register_in s (length r.accounts) 0
  unfolding codes_in places_from
  old_register_lem = front_register s r [] old_front 0 old_its.codes

  old_holds : old_in s (length r.accounts) ≡ true
  unfolding old_in lines_test foreign_in codes_in places_from any repeat_in keys_in upto twice
  old_holds = rw (old_front.first, eq-eqb (length s) (place (length r.accounts)) (old_size s r h), front_single s r (length r.accounts) 0 old_register_lem old_its.good)

-- the register of a text, by its places
pub in_places : (s : List ℕ) → register s ≡ given (passes_in s (count s) (code_count s (count s))) (register_in s (count s) (code_count s (count s)))
unfolding count code_count
in_places s = go (passes_in s n m) refl (register s) refl
  where
    n : ℕ
    n = count s

    m : ℕ
    m = code_count s n

    go : (t : Bool) → passes_in s n m ≡ t → (o : Option Register) → register s ≡ o → o ≡ given t (register_in s n m)
    go true e o f = sym f ∙ in_register s n m (leading_all (account_stands s) 38 24 40) (leading_all (code_stands s) 35 (place n) 40) (leading_few (account_stands s) 38 24 40) (leading_few (code_stands s) 35 (place n) 40) e
    go false e none f = refl
    go false e (some r) f = never (sym e ∙ rw (count_is s r f, code_count_is s r f) (register_holds s r f))

-- and an old one
pub old_in_places : (s : List ℕ) → old_register s ≡ given (old_in s (count s)) (register_in s (count s) 0)
unfolding count
old_in_places s = go (old_in s (count s)) refl (old_register s) refl
  where
    go : (t : Bool) → old_in s (count s) ≡ t → (o : Option Register) → old_register s ≡ o → o ≡ given t (register_in s (count s) 0)
    go true e o f = sym f ∙ in_old s (count s) (leading_all (account_stands s) 38 24 40) (leading_few (account_stands s) 38 24 40) e
    go false e none f = refl
    go false e (some r) f = never (sym e ∙ rw (old_count s r f) (old_holds s r f))
