-- A register, taken apart: its text is the line of the temporary account, which has 24 bytes, at most 40 account lines, which have 38 each, at most 40 code lines, which have 35 each, and the last line, which has 5. An old one is the first two of these.
use Rattle.std.specs.Prelude.{◌≡◌, refl, true, List, [], ◌∷◌, ◌++◌, ℕ, ◌+◌, ◌*◌, ◌≤◌, length, take, drop}
use Rattle.std.proofs.Common.{sym, ap, ◌∙◌, append_assoc, append-nil, mul-zero, mul-suc, arith, length-append}
use Rattle.std.proofs.Math.Option.{Option, none, some}
use borrow.Author.Tests.{leb-true}
use Rattle.rules.specs.Text.{ascii, digits, digits_from, equal, is_digit, is_letter, is_alnum, fits_sign, fits, is_some, then, read_each, read_leading}
use Rattle.rules.specs.Accounts.{passes, iban_shape}
use Rattle.rules.specs.Lines.{Line, before as put_before, lines}
use Rattle.rules.specs.Register.{Account, Code, Register, account_line, code_line, sound_accounts, sound_codes, sound, of_lines, before_end, register, register_of, old_of_lines, old_register}
use Rattle.laws.specs.Reading.{fits_length}
use Rattle.laws.specs.Equal.{equal_true}
use Rattle.laws.specs.Tests.{and_left, and_right, none_some}
use Rattle.laws.specs.All.{All, All.none, All.more}
use Rattle.rule_laws.specs.Options.{There, there, Came, came, Mapped, mapped, Gave, gave, Reads, Reads.empty, Reads.more, reads, each_read, Leads, leads, Unread, Unread.end, Unread.stops, leading_read}
use Rattle.rule_laws.specs.Lines.{Lined, Lined.end, Lined.next, lines_lined}

-- ---- the last line

-- `END`
abbrev pub last_line : Line
last_line = ascii "END"

pub before_end_lem : (ls ms : List Line) → before_end ls ≡ some ms → ls ≡ ms ++ (last_line ∷ [])
unfolding before_end
before_end_lem [] ms h = none_some h
before_end_lem (l ∷ []) ms h =
    let g : Gave (equal l last_line) [] ms = gave _ _ h in
    rw (← g.is, equal_true l last_line g.test)
before_end_lem (l ∷ k ∷ ls) ms h =
    let m : Mapped (put_before l) (before_end (k ∷ ls)) ms = mapped _ _ h in
    rw (← m.gives) (ap (λ (more : List Line). l ∷ more) (before_end_lem (k ∷ ls) m.value m.is))

pub end_before : (ms : List Line) → before_end (ms ++ (last_line ∷ [])) ≡ some ms
unfolding before_end equal
end_before [] = refl
end_before (l ∷ []) = refl
end_before (l ∷ k ∷ ms) = rw (end_before (k ∷ ms))

-- ---- the register of some lines

-- a first line, account lines and code lines
pub record LinesRead (ls : List Line) (r : Register) : Type 0 where
  pub account_lines : List Line
  pub code_lines : List Line
  pub all : ls ≡ r.temporary ∷ account_lines ++ code_lines
  pub accounts : Reads account_line account_lines r.accounts
  pub codes : Reads code_line code_lines r.codes
  pub good : sound r ≡ true

pub lines_read : (ls : List Line) (r : Register) → of_lines ls ≡ some r → LinesRead ls r
unfolding of_lines
lines_read [] r k = none_some k
lines_read (l ∷ ls) r k =
    let a : Leads account_line ls (read_leading account_line ls).read (read_leading account_line ls).others = leads account_line ls in
    let c : Came (read_each code_line (read_leading account_line ls).others) _ r = came _ _ k in
    let g : Gave _ _ r = gave _ _ c.gives in
    rw (← g.is) record {
      account_lines = a.first;
      code_lines = (read_leading account_line ls).others;
      all = ap (λ (more : List Line). l ∷ more) a.whole;
      accounts = a.read;
      codes = reads code_line _ c.value c.is;
      good = g.test;
    }

-- the register of a text
pub record RegisterRead (s : List ℕ) (r : Register) : Type 0 where
  pub before : List Line
  pub all : lines s ≡ some (before ++ (last_line ∷ []))
  pub read : LinesRead before r

pub register_read : (s : List ℕ) (r : Register) → register s ≡ some r → RegisterRead s r
unfolding register
register_read s r h =
    let b : Came (then (lines s) before_end) of_lines r = came _ _ h in
    let l : Came (lines s) before_end b.value = came _ _ b.is in
    record { before = b.value; all = l.is ∙ ap some (before_end_lem l.value b.value l.gives); read = lines_read b.value r b.gives }

-- its lines, part by part
pub lines_parted : (s : List ℕ) (r : Register) (k : RegisterRead s r) → lines s ≡ some (r.temporary ∷ k.read.account_lines ++ (k.read.code_lines ++ (last_line ∷ [])))
lines_parted s r k =
    k.all
    ∙ ap (λ (ls : List Line). some (ls ++ (last_line ∷ []))) k.read.all
    ∙ ap (λ (ls : List Line). some (r.temporary ∷ ls)) (append_assoc k.read.account_lines k.read.code_lines (last_line ∷ []))

-- ---- the length of a line

pub account_length : (l : Line) (a : Account) → account_line l ≡ some a → length l ≡ 36
unfolding account_line
account_length l a h =
    let x : Came (digits (take 6 (drop 23 l))) _ a = came _ _ h in
    let y : Came (digits (take 6 (drop 30 l))) _ a = came _ _ x.gives in
    let g : Gave _ _ a = gave _ _ y.gives in
    sym (fits_length (ascii "cccccccccccccccccccccc,nnnnnn,nnnnnn") l (and_left _ _ (and_left _ _ g.test)))

pub code_length : (l : Line) (c : Code) → code_line l ≡ some c → length l ≡ 33
unfolding code_line
code_length l c h = let g : Gave _ _ c = gave _ _ h in sym (fits_length (ascii "nnnnnnnnnn,cccccccccccccccccccccc") l g.test)

-- a code line is no account line
code_other : (l : Line) (c : Code) → code_line l ≡ some c → account_line l ≡ none
code_other l c h = go (account_line l) refl
  where
    go : (o : Option Account) → account_line l ≡ o → account_line l ≡ none
    go none e = e
    go (some a) e = absurd (omega (arith, account_length l a e, code_length l c h))

-- ---- and back: the register of a first line, account lines and code lines

codes_unread : {ls : List Line} {cs : List Code} → Reads code_line ls cs → Unread account_line ls
codes_unread empty = end
codes_unread (more {x = l} {y = c} e r) = stops (code_other l c e)

pub lines_of : (ls : List Line) (r : Register) → LinesRead ls r → of_lines ls ≡ some r
unfolding of_lines
lines_of ls r k = rw (k.all, leading_read account_line k.accounts (codes_unread k.codes), each_read code_line k.codes, k.good)

pub register_of_lem : (s : List ℕ) (r : Register) → RegisterRead s r → register s ≡ some r
unfolding register
register_of_lem s r k = rw (k.all, end_before k.before) (lines_of k.before r k.read)

-- the last line is neither
last_account : account_line last_line ≡ none
unfolding account_line digits_from fits fits_sign is_alnum is_digit is_letter
last_account = refl

pub last_code : code_line last_line ≡ none
unfolding code_line fits fits_sign is_digit
last_code = refl

-- behind the account lines stands none
pub others_unread : {ls : List Line} {cs : List Code} → Reads code_line ls cs → Unread account_line (ls ++ (last_line ∷ []))
others_unread empty = stops last_account
others_unread (more {x = l} {y = c} e r) = stops (code_other l c e)

-- ---- its length

-- lines stand before other lines and have n bytes
record Before (s : List ℕ) (rest : List Line) (n : ℕ) : Type 0 where
  others : List ℕ
  reading : Lined others rest
  size : length s ≡ n + length others

-- lines of one form, each with w bytes
before : {A : Type 0} (f : Line → Option A) (w : ℕ) → ((l : Line) (a : A) → f l ≡ some a → length l + 2 ≡ w) → {s : List ℕ} {ls rest : List Line} {xs : List A} → Reads f ls xs → Lined s (ls ++ rest) → Before s rest (w * length xs)
before f w wide {s} empty t = record { others = s; reading = t; size = rw (mul-zero w) (omega arith) }
before f w wide (more {x = l} {y = a} {ys = xs} e r) (next {cs = cs} p t) =
    let b : Before cs _ (w * length xs) = before f w wide r t in
    record { others = b.others; reading = b.reading; size = rw (mul-suc w (length xs)) (omega (arith, length-append l (13 ∷ 10 ∷ cs), wide l a e, b.size)) }

account_wide : (l : Line) (a : Account) → account_line l ≡ some a → length l + 2 ≡ 38
account_wide l a e = omega (arith, account_length l a e)

code_wide : (l : Line) (c : Code) → code_line l ≡ some c → length l + 2 ≡ 35
code_wide l c e = omega (arith, code_length l c e)

-- a first line that passes, and account lines behind it
front_size : (s : List ℕ) (r : Register) {ls rest : List Line} → passes r.temporary ≡ true → Reads account_line ls r.accounts → lines s ≡ some (r.temporary ∷ ls ++ rest) → Before s rest (24 + 38 * length r.accounts)
unfolding passes iban_shape
front_size s r {ls} {rest} h k e = go (lines_lined s _ e)
  where
    go : {t : List ℕ} → Lined t (r.temporary ∷ ls ++ rest) → Before t rest (24 + 38 * length r.accounts)
    go (next {cs = cs} p t) =
        let b : Before cs rest (38 * length r.accounts) = before account_line 38 account_wide k t in
        record {
          others = b.others;
          reading = b.reading;
          size = omega (arith, length-append r.temporary (13 ∷ 10 ∷ cs), fits_length (ascii "BGnnaaaannnnnncccccccc") r.temporary (and_left _ _ h), b.size);
        }

-- ---- what is asked of its lines

account_passes : (l : Line) (a : Account) → account_line l ≡ some a → passes a.iban ≡ true
unfolding account_line
account_passes l a h =
    let x : Came (digits (take 6 (drop 23 l))) _ a = came _ _ h in
    let y : Came (digits (take 6 (drop 30 l))) _ a = came _ _ x.gives in
    let g : Gave _ _ a = gave _ _ y.gives in
    rw (← g.is) (and_right (fits (ascii "cccccccccccccccccccccc,nnnnnn,nnnnnn") l) _ (and_left _ _ g.test))

-- an account whose IBAN passes
abbrev pub Passes : Account → Type 0
Passes a = passes a.iban ≡ true

all_pass : {ls : List Line} {xs : List Account} → Reads account_line ls xs → All Passes xs
all_pass empty = none
all_pass (more {x = l} {y = a} e r) = more (account_passes l a e) (all_pass r)

module _ (s : List ℕ) (r : Register) (h : register s ≡ some r) where
  its : RegisterRead s r
  its = register_read s r h

  pub register_sound : sound_accounts r ≡ true
  unfolding sound
  register_sound = and_left _ _ its.read.good

  codes_sound : sound_codes r ≡ true
  unfolding sound
  codes_sound = and_right (sound_accounts r) _ its.read.good

  pub register_few : length r.accounts ≤ 40
  unfolding sound_accounts
  register_few = leb-true _ _ (and_right (passes r.temporary) _ (and_left _ _ register_sound))

  pub codes_few : length r.codes ≤ 40
  unfolding sound_codes
  codes_few = leb-true _ _ (and_left _ _ (and_left _ _ codes_sound))

  pub temporary_passes : passes r.temporary ≡ true
  unfolding sound_accounts
  temporary_passes = and_left _ _ (and_left _ _ register_sound)

  pub accounts_pass : All Passes r.accounts
  accounts_pass = all_pass its.read.accounts

  pub register_size : length s ≡ 24 + 38 * length r.accounts + 35 * length r.codes + 5
  register_size =
      let f : Before s (its.read.code_lines ++ (last_line ∷ [])) _ = front_size s r temporary_passes its.read.accounts (lines_parted s r its) in
      let c : Before f.others (last_line ∷ []) _ = before code_line 35 code_wide its.read.codes f.reading in
      omega (arith, f.size, c.size, last c.reading)
    where
      last : {t : List ℕ} → Lined t (last_line ∷ []) → length t ≡ 5
      last (next p end) = refl

-- the longest text
abbrev pub longest_register : ℕ
longest_register = 24 + 38 * 40 + 35 * 40 + 5

pub register_length : (s : List ℕ) → is_some (register s) ≡ true → length s ≤ longest_register
register_length s h = let r : There (register s) = there (register s) h in omega (arith, register_size s r.value r.is, register_few s r.value r.is, codes_few s r.value r.is)

-- the account lines of a text that passes
pub accounts_pass_of : (s : List ℕ) → is_some (register s) ≡ true → All Passes (register_of s).accounts
unfolding register_of
accounts_pass_of s h = let r : There (register s) = there (register s) h in rw r.is (accounts_pass s r.value r.is)

-- ---- an old register

-- a first line and account lines
pub record OldRead (s : List ℕ) (r : Register) : Type 0 where
  pub account_lines : List Line
  pub all : lines s ≡ some (r.temporary ∷ account_lines)
  pub accounts : Reads account_line account_lines r.accounts
  pub codes : r.codes ≡ []
  pub good : sound_accounts r ≡ true

pub old_read : (s : List ℕ) (r : Register) → old_register s ≡ some r → OldRead s r
unfolding old_register old_of_lines
old_read s r h = let l : Came (lines s) old_of_lines r = came _ _ h in go l.value l.is l.gives
  where
    go : (ls : List Line) → lines s ≡ some ls → old_of_lines ls ≡ some r → OldRead s r
    go [] e k = none_some k
    go (l ∷ ls) e k =
        let a : Came (read_each account_line ls) _ r = came _ _ k in
        let g : Gave _ _ r = gave _ _ a.gives in
        rw (← g.is) record { account_lines = ls; all = e; accounts = reads account_line ls a.value a.is; codes = refl; good = g.test }

pub old_of : (s : List ℕ) (r : Register) → OldRead s r → old_register s ≡ some r
unfolding old_register old_of_lines
old_of s r k =
    let e : record { temporary = r.temporary; accounts = r.accounts; codes = [] } ≡ r = λ i. record { temporary = r.temporary; accounts = r.accounts; codes = sym k.codes i } in
    rw (k.all, each_read account_line k.accounts, e, k.good)

-- its length
pub old_size : (s : List ℕ) (r : Register) → old_register s ≡ some r → length s ≡ 24 + 38 * length r.accounts
unfolding sound_accounts
old_size s r h =
    let k : OldRead s r = old_read s r h in
    let f : Before s [] _ = front_size s r (and_left _ _ (and_left _ _ k.good)) k.accounts (k.all ∙ rw append-nil) in
    omega (arith, f.size, nothing f.reading)
  where
    nothing : {t : List ℕ} → Lined t [] → length t ≡ 0
    nothing end = refl
