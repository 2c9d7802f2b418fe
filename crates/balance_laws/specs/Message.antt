-- What the lines of an accepted message tell: in comes what it transfers, out goes what it details, credited and returned both.
use Rattle.std.specs.Prelude.{◌≡◌, Bool, cond, ℕ, ◌+◌, ◌^◌, ◌<◌}
use Rattle.std.proofs.Math.Path.{refl}
use Rattle.std.proofs.Common.{sym, ap, arith}
use Rattle.std.proofs.Math.Bool.{true, false}
use mathlib.Core.List.{List, [], ◌∷◌, ◌++◌, append_assoc}
use Rattle.std.proofs.Math.Option.{some}
use Rattle.rules.specs.Messages.{Message, mt103, mt101, Detail, payer_code, account59, details_of, date_of, transferred_by, detailed_by, sum_of_amounts}
use Rattle.rules.specs.Register.{Register, register_of}
use Rattle.rules.specs.Verdict.{Verdict, credited, credited_by_code, returned, is_returned, is_listed199, account_at}
use Rattle.rules.specs.Engine.{Engine, bic}
use Rattle.rules.specs.Written.{Book, posting, verdicts, returns}
use Rattle.rules.specs.Calls.{bank_of, verdict_of, verdict_is, judged_to, returned_details, listed_details, message_book, detail_posting, detail_postings, postings, has_verdict, position_after, parts_written, message_text}
use Rattle.rules.specs.Ledger.{Kind, Request, is_party}
use Rattle.laws.specs.All.{All, all_passing}
use Rattle.rule_laws.specs.Registers.{Passes}
use Rattle.rule_laws.specs.Verdicts.{credited_line}
use Rattle.balance_laws.specs.Told.{Tells, tells_none, tells_join, tells_same, tells_mute, Mute, mute_none, mute_join}
use Rattle.balance_laws.specs.Mute.{DetailSent, mute_verdicts, mute_returns}
use Rattle.balance_laws.specs.Accounts.{credited_shape}
use Rattle.balance_laws.specs.Kinds.{comes_in, goes_out, Readable, mine, mine_none, mine_adds, bank_party, iban_party, in_from, out_from, in_paid, out_paid}

-- ---- the posting lines of details

-- whom a verdict pays: the register's account, or the bank
unfoldable pub payee : Register → Book → Verdict → List ℕ
payee r b (credited i) = (account_at r i).iban
payee r b (credited_by_code i c) = (account_at r i).iban
payee r b (returned c) = bic b.bank

paid : (r : Register) (b : Book) (d : Detail) (v : Verdict) → detail_posting r b d v ≡ posting b b.temporary (payee r b v) d.amount
unfolding detail_posting payee
paid r b d (credited i) = refl
paid r b d (credited_by_code i c) = refl
paid r b d (returned c) = refl

payee_party : (r : Register) (b : Book) (d : Detail) → All Passes r.accounts → Readable b → is_party (payee r b (verdict_of r d)) ≡ true
unfolding payee credited_line
payee_party r b d a k = go (verdict_of r d) refl
  where
    account : (i : ℕ) → credited_line (verdict_of r d) ≡ some i → is_party (account_at r i).iban ≡ true
    account i e = iban_party (account_at r i).iban (credited_shape r a (payer_code d) (account59 d) i e)

    go : (v : Verdict) → verdict_of r d ≡ v → is_party (payee r b v) ≡ true
    go (credited i) e = account i (ap credited_line e)
    go (credited_by_code i c) e = account i (ap credited_line e)
    go (returned c) e = bank_party b k

-- a kind that counts each line from the temporary account by g counts all details by it
module _ (kind : Kind) (f : Request) (r : Register) (a : All Passes r.accounts) (b : Book) (k : Readable b) (g : ℕ → ℕ) (none : g 0 ≡ 0) (adds : (v w : ℕ) → g (v + w) ≡ g v + g w)
    (counts : (credit : List ℕ) (v : ℕ) → is_party credit ≡ true → v < 10 ^ 20 → Tells kind f (posting b b.temporary credit v) (g v)) where
  tells_details : (ds : List Detail) → sum_of_amounts ds < 10 ^ 20 → Tells kind f (detail_postings r b ds) (g (sum_of_amounts ds))
  unfolding detail_postings sum_of_amounts
  tells_details [] h = tells_same tells_none (sym none)
  tells_details (d ∷ ds) h =
      let v : Verdict = verdict_of r d in
      let one : Tells kind f (detail_posting r b d v) (g d.amount) = rw (paid r b d v) (counts (payee r b v) d.amount (payee_party r b d a k) (omega arith)) in
      tells_same (tells_join one (tells_details ds (omega arith))) (sym (adds d.amount (sum_of_amounts ds)))

-- ---- the posting lines of a message

module _ (bank : ℕ) (f : Request) (s : bank < 2 ^ 64) (r : Register) (a : All Passes r.accounts) (b : Book) (k : Readable b) where
  pub postings_in_lem : (m : Message) → transferred_by m < 10 ^ 20 → detailed_by m < 10 ^ 20 → Tells (comes_in bank) f (postings r b m) (mine bank b.bank (transferred_by m))
  unfolding postings transferred_by detailed_by details_of
  postings_in_lem (mt103 t) h l = in_from b bank t.amount k s h
  postings_in_lem (mt101 o) h l =
      tells_same (tells_details (comes_in bank) f r a b k (λ v. 0) refl (λ v w. refl) (λ credit v p l. in_paid b bank v k s l credit p) o.details l) (sym (mine_none bank b.bank))

  postings_out : (m : Message) → transferred_by m < 10 ^ 20 → detailed_by m < 10 ^ 20 → Tells (goes_out b.temporary bank) f (postings r b m) (mine bank b.bank (detailed_by m))
  unfolding postings transferred_by detailed_by details_of sum_of_amounts
  postings_out (mt103 t) h l = tells_same (out_from b bank t.amount k s h) (sym (mine_none bank b.bank))
  postings_out (mt101 o) h l =
      tells_details (goes_out b.temporary bank) f r a b k (mine bank b.bank) (mine_none bank b.bank) (mine_adds bank b.bank) (λ credit v p l. out_paid b bank v k s l credit p) o.details l

-- ---- a message

-- what the lines of an accepted message need
pub record Postable (e : Engine) (m : Message) : Type 0 where
  pub accounts : All Passes (register_of e.register).accounts
  pub book : Readable (message_book e m)
  pub details : All DetailSent (details_of m)
  pub transferred : transferred_by m < 10 ^ 20
  pub detailed : detailed_by m < 10 ^ 20

-- the posting lines of a message, by register and day
abbrev pub posting_text : List ℕ → ℕ → Message → List ℕ
posting_text text day m = let r = register_of text in postings r record { day = day; temporary = r.temporary; bank = bank_of m; date = date_of m } m

-- what follows them: the verdicts and the returns
unfoldable pub behind_postings : Engine → Message → List ℕ
behind_postings e m =
    cond (has_verdict m (position_after e m)) (verdicts e.day e.count (position_after e m) (listed_details e m)) []
    ++ returns (message_book e m) (e.count + parts_written e m) (returned_details e m)

pub message_parts : (e : Engine) (m : Message) → message_text e m ≡ posting_text e.register e.day m ++ behind_postings e m
unfolding message_text behind_postings
message_parts e m = append_assoc (posting_text e.register e.day m) _ (returns (message_book e m) (e.count + parts_written e m) (returned_details e m))

module _ (e : Engine) (m : Message) (w : Postable e m) where
  -- those of the details whose verdicts pass a test
  judged_sent : (test : Verdict → Bool) → All DetailSent (judged_to test (register_of e.register) (details_of m))
  judged_sent test = all_passing (verdict_is test (register_of e.register)) w.details

  -- what follows tells nothing
  pub mute_behind : Mute (behind_postings e m)
  unfolding behind_postings position_after
  mute_behind = mute_join (go (has_verdict m (position_after e m))) (mute_returns (message_book e m) (e.count + parts_written e m) w.book.known w.book.account (judged_sent is_returned))
    where
      go : (t : Bool) → Mute (cond t (verdicts e.day e.count (position_after e m) (listed_details e m)) [])
      go true = mute_verdicts e.day e.count (position_after e m) w.book.known (judged_sent is_listed199)
      go false = mute_none

  -- a message tells what its posting lines do
  tells_message : {kind : Kind} {f : Request} {v : ℕ} → Tells kind f (posting_text e.register e.day m) v → Tells kind f (message_text e m) v
  tells_message t = rw (message_parts e m) (tells_same (tells_join t (tells_mute mute_behind)) (omega arith))

  module _ (bank : ℕ) (f : Request) (s : bank < 2 ^ 64) where
    pub message_in_lem : Tells (comes_in bank) f (message_text e m) (mine bank (bank_of m) (transferred_by m))
    message_in_lem = tells_message (postings_in_lem bank f s (register_of e.register) w.accounts (message_book e m) w.book m w.transferred w.detailed)

    pub message_out : Tells (goes_out (register_of e.register).temporary bank) f (message_text e m) (mine bank (bank_of m) (detailed_by m))
    message_out = tells_message (postings_out bank f s (register_of e.register) w.accounts (message_book e m) w.book m w.transferred w.detailed)
