-- A verdict, taken apart: what is credited, by its account or by its code, goes to an account line of the register.
use Rattle.std.specs.Prelude.{◌≡◌, refl, Bool, true, false, not, cond, List, [], ◌∷◌, ℕ, suc, ◌+◌, ◌<◌, length, get_or, take}
use Rattle.std.proofs.Math.Option.{Option, none, some}
use Rattle.std.proofs.Common.{arith}
use Rattle.rules.specs.Text.{equal}
use Rattle.rules.specs.Accounts.{control}
use Rattle.rules.specs.Register.{Account, Register}
use Rattle.rules.specs.Verdict.{Cause, Verdict, credited, credited_by_code, returned, wrong_shape, wrong_control, out_of_bounds, found, no_account, account_at, shaped, in_bounds, judged, verdict, iban_beside, line_by_code, by_line, by_code}
use Rattle.laws.specs.Tests.{none_some}
use Rattle.rule_laws.specs.Options.{some_is, Came, came}

-- line i is one of the account lines, the first of them being line n, and has the IBAN
pub record AccountFound (iban : List ℕ) (n i : ℕ) (accounts : List Account) : Type 0 where
  pub place : ℕ
  pub index : i ≡ n + place
  pub listed : place < length accounts
  pub same : equal (get_or accounts place no_account).iban iban ≡ true

pub account_found : (iban : List ℕ) (n i : ℕ) (accounts : List Account) → found iban n accounts ≡ some i → AccountFound iban n i accounts
unfolding found
account_found iban n i [] h = none_some h
account_found iban n i (a ∷ more) h = go (equal a.iban iban) refl (account_found iban (n + 1) i more) h
  where
    go : (t : Bool) → equal a.iban iban ≡ t → (found iban (n + 1) more ≡ some i → AccountFound iban (n + 1) i more) → cond t (some n) (found iban (n + 1) more) ≡ some i → AccountFound iban n i (a ∷ more)
    go true e f k = let q : n ≡ i = some_is k in record { place = 0; index = omega arith; listed = omega arith; same = e }
    go false e f k = let g : AccountFound iban (n + 1) i more = f k in record { place = suc g.place; index = omega (arith, g.index); listed = omega (arith, g.listed); same = g.same }

-- so it is one of them
pub found_listed : (iban : List ℕ) (i : ℕ) (accounts : List Account) → found iban 0 accounts ≡ some i → i < length accounts
found_listed iban i accounts h = let f : AccountFound iban 0 i accounts = account_found iban 0 i accounts h in omega (arith, f.index, f.listed)

-- ---- a verdict

-- of field 59 alone: credited to a line of the register, or returned
pub data PlainVerdict (r : Register) : Verdict → Type 0 where
  credits : {i : ℕ} → i < length r.accounts → PlainVerdict r (credited i)
  returns : {c : Cause} → PlainVerdict r (returned c)

pub plain_verdict_lem : (r : Register) (cs : List ℕ) → PlainVerdict r (verdict r cs)
unfolding verdict judged
plain_verdict_lem r cs = go (shaped cs) (control (take 22 cs)) (found (take 22 cs) 0 r.accounts) refl
  where
    last : (i : ℕ) (b : Bool) → found (take 22 cs) 0 r.accounts ≡ some i → PlainVerdict r (cond b (credited i) (returned out_of_bounds))
    last i true f = credits (found_listed (take 22 cs) i r.accounts f)
    last i false f = returns

    go : (t u : Bool) (o : Option ℕ) → found (take 22 cs) 0 r.accounts ≡ o → PlainVerdict r (cond (not t) (returned wrong_shape) (cond (not u) (returned wrong_control) (judged r cs o)))
    go true true (some i) f = last i (in_bounds (account_at r i) cs) f
    go true true none f = returns
    go true false o f = returns
    go false u o f = returns

-- the account line that a verdict credits
unfoldable pub credited_line : Verdict → Option ℕ
credited_line (credited i) = some i
credited_line (credited_by_code i c) = some i
credited_line (returned c) = none

-- of a code
code_line_lem : (r : Register) (code : List ℕ) (i : ℕ) → line_by_code r code ≡ some i → i < length r.accounts
unfolding line_by_code
code_line_lem r code i h = let c : Came (iban_beside code r.codes) _ i = came _ _ h in found_listed c.value i r.accounts c.gives

-- the line that a detail is credited to, by its account or by its code, is one of the register's
pub line_known : (r : Register) (code cs : List ℕ) (i : ℕ) → credited_line (by_code r code (verdict r cs)) ≡ some i → i < length r.accounts
unfolding by_code credited_line by_line
line_known r code cs i h = go (plain_verdict_lem r cs) (line_by_code r code) refl h
  where
    go : {v : Verdict} → PlainVerdict r v → (o : Option ℕ) → line_by_code r code ≡ o → credited_line (by_code r code v) ≡ some i → i < length r.accounts
    go (credits l) o e k = rw (← some_is k) l
    go returns none e k = none_some (rw e at k)
    go returns (some j) e k = rw (← some_is (rw e at k)) (code_line_lem r code j e)
